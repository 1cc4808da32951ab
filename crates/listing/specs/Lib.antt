pub mod Listing
pub mod Told
pub mod Slots
pub mod ListingLaws
pub mod SlotLaws
pub mod ListedLaws
pub mod Specimen
