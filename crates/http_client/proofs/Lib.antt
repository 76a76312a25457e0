pub mod RequestTextLemmas
pub mod SentLemmas
pub mod AnswerFrontLemmas
pub mod AnswerNextLemmas
pub mod FillLemmas
