pub mod Index
pub mod Text
pub mod Bytes
pub mod Faults
pub mod Order
