pub mod Words
pub mod TableText
pub mod Script
