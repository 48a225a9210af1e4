pub mod Causes
pub mod Commands
pub mod Cuts
pub mod Tokens
pub mod Turns
