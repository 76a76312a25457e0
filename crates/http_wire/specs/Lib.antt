pub mod Written
pub mod Answer
pub mod Span
pub mod Inbox
pub mod Next
