pub mod Determined
pub mod Made
pub mod MadeLaws
pub mod Demand3
pub mod Packing
pub mod Specimens
pub mod SpecimenLaws
