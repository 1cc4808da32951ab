pub mod MoveLaws
pub mod HeaderLaws
