pub mod Rows
pub mod Decides
pub mod Order
pub mod Table
