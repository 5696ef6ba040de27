pub mod StepLaws
pub mod SectionLaws
pub mod NumberedLaws
pub mod ParentLaws
pub mod TypesLaws
pub mod FileLaws
