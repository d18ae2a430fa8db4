pub mod AnswerText
pub mod ReadAgain
pub mod Writers
