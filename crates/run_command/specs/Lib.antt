pub mod Called
pub mod Command
