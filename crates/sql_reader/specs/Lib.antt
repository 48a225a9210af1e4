pub mod Cursor
pub mod Input
pub mod Kept
pub mod Looks
pub mod Reading
pub mod Sorts
