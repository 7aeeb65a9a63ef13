pub mod KnownBytes
pub mod Numbers
