pub mod ImportLaws
pub mod AncestorLaws
