pub mod Moments
pub mod Overlays
pub mod Pending
pub mod Stopped
