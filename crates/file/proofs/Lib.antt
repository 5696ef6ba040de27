pub mod PartsLaws
pub mod FileLaws
