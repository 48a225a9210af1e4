pub mod Cells
pub mod Errors
pub mod Layout
pub mod Taken
pub mod Write
