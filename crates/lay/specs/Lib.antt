pub mod Laying
pub mod Keeping
pub mod Faults
