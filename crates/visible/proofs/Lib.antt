pub mod ShownLaws
pub mod Rules
pub mod ModeLaws
