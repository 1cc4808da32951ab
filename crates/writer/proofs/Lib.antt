pub mod MarkLaws
pub mod PuttingLaws
pub mod RowLaws
pub mod AnswerLaws
