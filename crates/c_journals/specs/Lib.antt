pub mod Lines
pub mod Resumes
