pub mod Views
pub mod Steps
pub mod Key
pub mod Kinds
pub mod Structure
pub mod Outline
pub mod Equivalence
pub mod Runs
