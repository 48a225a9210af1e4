pub mod Applies
pub mod Folds
pub mod Forms
pub mod Found
pub mod Orders
pub mod Runs
pub mod Spaces
