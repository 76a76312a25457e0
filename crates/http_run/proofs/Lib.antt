pub mod MarkLemmas
pub mod BodyLemmas
pub mod OutcomeLemmas
