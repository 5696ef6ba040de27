pub mod ListedLaws
pub mod FindLaws
