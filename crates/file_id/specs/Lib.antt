pub mod FileId
pub mod Reading
pub mod Faults
