pub mod AnswerLaws
pub mod CountLaws
