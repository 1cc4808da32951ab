pub mod Runs
pub mod Words
pub mod Formed
pub mod Calls
pub mod Histories
pub mod Moves
pub mod Reports
