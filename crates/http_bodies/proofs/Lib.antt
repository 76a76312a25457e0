pub mod LineLemmas
pub mod EndLemmas
pub mod TrailerLemmas
pub mod ChunkLemmas
pub mod MoveLemmas
pub mod ReadLemmas
