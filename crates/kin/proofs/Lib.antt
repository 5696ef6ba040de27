pub mod KinLaws
pub mod ReachLaws
pub mod PassLaws
pub mod DepthLaws
