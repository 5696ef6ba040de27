pub mod ViewLaws
pub mod ScanLaws
pub mod ListLaws
