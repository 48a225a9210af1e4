pub mod Answers
pub mod Node
pub mod Nodes
pub mod Walk
