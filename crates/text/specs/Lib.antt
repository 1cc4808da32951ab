pub mod Lines
pub mod Room
pub mod Marks
pub mod LineLaws
pub mod MarkLaws
pub mod Specimen
