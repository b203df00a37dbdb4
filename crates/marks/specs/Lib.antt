pub mod MarkAnswers
pub mod MarkAnswersLaws
