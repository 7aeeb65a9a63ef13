pub mod Sums
pub mod Stays
pub mod SeatsKeep
pub mod WordKeeps
pub mod FastWorld
pub mod MarksKeep
pub mod FastKeeps
