pub mod Request
pub mod Sent
pub mod AnswerHead
pub mod Seen
pub mod AnswerFront
pub mod AnswerNext
pub mod CountedBody
