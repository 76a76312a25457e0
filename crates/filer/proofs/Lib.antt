pub mod Applying
pub mod Takings
pub mod Tails
pub mod Openings
