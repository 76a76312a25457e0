pub mod Denotation
pub mod Spans
pub mod Stretches
pub mod Visible
