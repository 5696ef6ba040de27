pub mod Parts
pub mod Put
