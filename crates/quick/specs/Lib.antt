pub mod Layout
pub mod Marking
pub mod Tallies
