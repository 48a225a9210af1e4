pub mod Depths
pub mod Heights
pub mod Keys
pub mod KeysSaid
pub mod SmallTrees
