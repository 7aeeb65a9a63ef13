mod AsBox
pub mod Members
pub mod Giving
pub mod Systems
