pub mod Either
pub mod Follows
