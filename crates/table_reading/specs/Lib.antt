pub mod Columns
pub mod Conflicts
pub mod Handed
pub mod Tables
pub mod Words
