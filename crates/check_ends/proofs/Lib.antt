pub mod CountLaws
pub mod RowLaws
pub mod MirrorLaws
pub mod ReverseLaws
pub mod GroupLaws
pub mod EndLaws
pub mod PassLaws
