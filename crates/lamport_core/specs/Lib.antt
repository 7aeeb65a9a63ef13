pub mod State
pub mod Safe
pub mod Line
pub mod Machine
pub mod Laws
