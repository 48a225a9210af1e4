pub mod Statements
pub mod Triggers
