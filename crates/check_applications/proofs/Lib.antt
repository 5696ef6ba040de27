pub mod NumberLaws
pub mod ApplicationLaws
