pub mod EndLaws
pub mod Ends
pub mod InsertLaws
pub mod StatementLaws
pub mod TriggerLaws
pub mod WholeLaws
