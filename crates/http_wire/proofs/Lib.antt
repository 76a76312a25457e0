pub mod ListLemmas
pub mod WrittenLemmas
pub mod InboxLemmas
pub mod NextLemmas
