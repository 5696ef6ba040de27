pub mod PrintLaws
pub mod SpokenLaws
