pub mod Fault
pub mod Place
pub mod Query
pub mod Form
pub mod Row
pub mod Check
pub mod Wish
