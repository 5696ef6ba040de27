pub mod RowLaws
pub mod OneTypeLaws
pub mod NumberLaws
pub mod TypesLaws
