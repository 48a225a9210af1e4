pub mod Keys
pub mod Rules
pub mod Nesting
pub mod Tokens
