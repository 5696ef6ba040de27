pub mod Steps
pub mod Loaded
