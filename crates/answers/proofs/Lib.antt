pub mod AnswerLaws
pub mod WrittenLaws
pub mod ReadingLaws
