pub mod Kinds
pub mod Choices
pub mod Dependence
pub mod Locks
pub mod Races
pub mod Shown
