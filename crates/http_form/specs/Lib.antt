pub mod Search
pub mod Boundary
pub mod Field
pub mod Form
pub mod Laid
