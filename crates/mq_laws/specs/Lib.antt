pub mod Laws
pub mod Refusals
pub mod Registrations
pub mod Needed
pub mod Before
pub mod Sharing
