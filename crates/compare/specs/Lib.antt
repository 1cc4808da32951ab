pub mod Comparisons
pub mod ComparisonLaws
