pub mod New
