pub mod Opens
pub mod Plan
pub mod Ready
pub mod Records
pub mod Stages
