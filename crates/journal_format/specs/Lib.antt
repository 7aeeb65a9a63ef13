pub mod Text
pub mod Fitting
pub mod Reading
pub mod JournalFault
pub mod Lines
