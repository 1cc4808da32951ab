pub mod PackingLaws
pub mod DeterminedC
