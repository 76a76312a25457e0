pub mod FidText
pub mod LineLemmas
