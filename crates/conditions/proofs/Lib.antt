pub mod ReverseLaws
pub mod ConditionLaws
pub mod AimedLaws
