pub mod MemBlobs
