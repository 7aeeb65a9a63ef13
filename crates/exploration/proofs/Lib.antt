pub mod Opening
pub mod Locking
