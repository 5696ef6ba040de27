pub mod Applied
