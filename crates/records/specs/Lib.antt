pub mod Messages
pub mod Steps
pub mod Events
pub mod RecordReading
pub mod RecordText
pub mod Lengths
pub mod Sameness
