pub mod Count
pub mod Ends
