pub mod WordLaws
pub mod HeldLaws
