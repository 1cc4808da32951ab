pub mod Candidates
pub mod FinalLaws
pub mod CandidateLaws
