pub mod Items
pub mod Seats
pub mod Word
pub mod Marks
pub mod Fast
