pub mod Held
pub mod Fine
