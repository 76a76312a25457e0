pub mod Lines
pub mod Json
pub mod Changed
pub mod Denial
pub mod Part
pub mod Heads
