pub mod Studies
pub mod StudyLaws
pub mod Holders
pub mod HolderLaws
pub mod Plain
pub mod TakingLaws
pub mod PlainLaws
