pub mod ColumnLaws
pub mod ConflictLaws
pub mod KeyLaws
pub mod TableLaws
pub mod WholeLaws
pub mod WordLaws
