pub mod KeyLaws
pub mod ReadLaws
pub mod TurnLaws
