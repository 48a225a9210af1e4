pub mod Joined
pub mod Leaf
pub mod Levels
pub mod Rules
pub mod Tokens
pub mod Tree
