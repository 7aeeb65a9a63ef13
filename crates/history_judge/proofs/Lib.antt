pub mod Joining
pub mod Whole
pub mod Lists
pub mod Grouping
pub mod Alike
pub mod Transport
pub mod Narrowing
pub mod Written
pub mod Lines
pub mod Strangers
pub mod OwnNumbers
pub mod LineLengths
pub mod Pending
pub mod Noting
mod Forming
mod Copies
