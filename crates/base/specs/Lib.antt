pub mod Tables
pub mod Rows
pub mod Back
pub mod Stored
pub mod Tested
