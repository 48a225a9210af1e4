pub mod Fronts
pub mod InPlace
pub mod Left
pub mod Only
pub mod Shortest
pub mod Sizes
pub mod ToCome
pub mod Writable
