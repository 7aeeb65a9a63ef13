pub mod Faults
pub mod Output
pub mod Sources
pub mod Words
