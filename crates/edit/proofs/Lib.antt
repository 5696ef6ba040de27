pub mod EditLaws
pub mod TypeWritten
pub mod TakenLaws
pub mod ModesWritten
