pub mod Sides
pub mod Counters
pub mod CounterCases
