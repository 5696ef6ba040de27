pub mod SpanLaws
pub mod PutLaws
pub mod PlacedLaws
pub mod EntryLaws
pub mod DownLaws
