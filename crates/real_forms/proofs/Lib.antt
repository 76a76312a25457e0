pub mod ActLemmas
pub mod AwaitingLemmas
pub mod FolderLemmas
pub mod ListLemmas
pub mod StreamLemmas
