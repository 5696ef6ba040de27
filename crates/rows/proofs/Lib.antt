pub mod Rows
pub mod Decides
pub mod Scan
pub mod ZeroLaws
pub mod TableLaws
pub mod Written
pub mod OrderLaws
pub mod FoldLaws
