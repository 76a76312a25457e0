pub mod QueryLemmas
pub mod FormLemmas
pub mod PlaceLemmas
