pub mod Image
pub mod Header
pub mod FirstPage
pub mod FirstForm
pub mod Served
pub mod Step
pub mod Plan
pub mod Verdicts
