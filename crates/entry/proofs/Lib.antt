pub mod MessageLemmas
pub mod RoundTrip
pub mod ChunkLemmas
pub mod EntryLemmas
pub mod ValidEntries
pub mod Collecting
pub mod WrittenChunks
pub mod Lengths
