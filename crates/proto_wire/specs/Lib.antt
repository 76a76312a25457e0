pub mod Text
pub mod WireType
pub mod Field
pub mod Taken
pub mod Refusal
pub mod Reading
pub mod Frame
