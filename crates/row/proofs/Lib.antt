pub mod Laws
pub mod AnswerLaws
pub mod MeasuredLaws
pub mod ValidRows
