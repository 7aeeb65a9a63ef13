pub mod Says
pub mod Moments
pub mod Blocked
pub mod Calls
pub mod Asked
pub mod Kinds
pub mod KindsHold
pub mod Readings
