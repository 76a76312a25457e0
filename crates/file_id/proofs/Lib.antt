pub mod Cuts
pub mod Digits
pub mod Numbers
pub mod Hex
pub mod Names
pub mod Written
