pub mod SpanLaws
pub mod PutLaws
pub mod NumberedLaws
pub mod ParentLaws
pub mod CopiedLaws
pub mod PartLaws
pub mod ShownLaws
