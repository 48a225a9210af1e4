pub mod Identities
pub mod Parts
pub mod Ranks
pub mod Renamed
pub mod Stay
pub mod Schema
