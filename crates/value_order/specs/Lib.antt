pub mod Affinity
pub mod Collation
pub mod Conversion
pub mod Number
pub mod Order
pub mod Runs
