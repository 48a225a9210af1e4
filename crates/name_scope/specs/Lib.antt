pub mod Catalogue
pub mod Columns
pub mod Found
pub mod Literal
pub mod Rank
pub mod Scope
pub mod Sees
