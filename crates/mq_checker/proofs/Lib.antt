pub mod Checked
pub mod Entries
pub mod Flagged
pub mod TakenBits
pub mod TablesKeep
