pub mod Spans
pub mod Stretches
pub mod Joined
pub mod Runs
pub mod Near
