pub mod Reverse
pub mod Aimed
