pub mod Settling
pub mod SettlingLaws
pub mod Carrying
pub mod CarryingLaws
pub mod Siding
