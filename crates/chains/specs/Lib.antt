pub mod Kids
pub mod Hanging
pub mod KidsLaws
pub mod HangingLaws
