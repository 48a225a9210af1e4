pub mod Chains
pub mod Read
pub mod Runs
pub mod Visits
