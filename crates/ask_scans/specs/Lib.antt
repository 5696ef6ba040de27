pub mod View
pub mod Scans
pub mod Lists
