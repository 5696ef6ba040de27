pub mod LineLaws
pub mod InputLaws
pub mod WordLaws
