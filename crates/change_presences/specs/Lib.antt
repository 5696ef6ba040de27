pub mod Remove
pub mod Modes
pub mod Rename
