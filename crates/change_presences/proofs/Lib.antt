pub mod HeldLaws
pub mod RenameLaws
pub mod RemoveLaws
pub mod ModesLaws
