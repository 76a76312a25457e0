pub mod Nodes
pub mod Places
pub mod Changes
pub mod Told
pub mod Writable
pub mod Tallies
pub mod Choices
pub mod Picks
