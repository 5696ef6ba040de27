pub mod Set
pub mod Round
pub mod Put
