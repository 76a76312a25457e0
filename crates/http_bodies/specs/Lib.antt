pub mod Stage
pub mod Mark
pub mod Body
pub mod Found
pub mod Read
