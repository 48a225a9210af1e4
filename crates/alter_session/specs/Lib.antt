pub mod Serves
pub mod Opening
pub mod Reading
pub mod Committing
pub mod Session
pub mod Applying
