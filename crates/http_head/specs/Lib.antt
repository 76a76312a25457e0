pub mod Words
pub mod Lines
pub mod Target
pub mod Range
pub mod Body
pub mod Request
pub mod Seen
pub mod Front
