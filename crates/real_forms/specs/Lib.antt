pub mod System
pub mod Awaiting
pub mod Folder
pub mod RealForms
