pub mod Below
pub mod Names
pub mod Ranks
pub mod Sights
