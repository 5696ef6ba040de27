pub mod Bit
pub mod Members
pub mod Set
pub mod Round
pub mod PutLaws
