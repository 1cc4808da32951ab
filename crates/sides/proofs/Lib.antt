pub mod SideLaws
pub mod CounterLaws
pub mod TallyLaws
