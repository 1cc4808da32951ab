pub mod Verdicts
pub mod VerdictLaws
