pub mod Holds
pub mod Making
pub mod Opening
pub mod Reads
pub mod Appending
pub mod Pieces
pub mod Writes
pub mod Deletes
