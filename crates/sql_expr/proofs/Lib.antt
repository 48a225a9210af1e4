pub mod Alike
pub mod AlikeEnds
pub mod Fronts
pub mod Heights
pub mod Joined
pub mod Kept
pub mod KeptRules
pub mod Leaves
pub mod Made
pub mod Maps
pub mod Opened
pub mod SmallTrees
mod Steps
