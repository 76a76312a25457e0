pub mod LineLemmas
pub mod TargetLemmas
pub mod NumberLemmas
pub mod FrontLemmas
