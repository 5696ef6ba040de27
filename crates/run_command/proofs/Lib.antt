pub mod CalledLaws
pub mod CommandLaws
