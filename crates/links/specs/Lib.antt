pub mod Lines
pub mod MemLinks
