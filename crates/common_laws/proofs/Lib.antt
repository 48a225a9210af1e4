pub mod Each
pub mod Lists
pub mod Options
pub mod Pairs
pub mod Places
