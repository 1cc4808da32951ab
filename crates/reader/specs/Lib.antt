pub mod Steps
pub mod StepLaws
pub mod Results
pub mod ResultLaws
