pub mod Handing
pub mod CountLaws
pub mod KeyLaws
pub mod PlacingLaws
pub mod StretchLaws
pub mod HandingLaws
