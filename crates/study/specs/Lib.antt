pub mod Scans
pub mod Adding
pub mod Spots
