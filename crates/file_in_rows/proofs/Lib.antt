pub mod EntryLaws
pub mod ListedLaws
pub mod PutsLaws
pub mod FilledLaws
pub mod LoadedLaws
