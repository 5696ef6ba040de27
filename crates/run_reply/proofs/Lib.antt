pub mod DoneLaws
pub mod PositiveLaws
pub mod ReplyLaws
pub mod SayLaws
