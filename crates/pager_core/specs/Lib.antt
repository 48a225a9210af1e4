pub mod Header
pub mod Image
pub mod Kept
pub mod Pages
pub mod Refusals
pub mod Shape
pub mod Slots
