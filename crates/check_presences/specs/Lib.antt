pub mod Rows
pub mod Fields
pub mod Floor
pub mod Gathered
