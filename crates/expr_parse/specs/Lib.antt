pub mod Begins
pub mod Given
