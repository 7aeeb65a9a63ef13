pub mod Cells
pub mod Levels
pub mod Chains
pub mod Messages
pub mod Held
pub mod Sound
