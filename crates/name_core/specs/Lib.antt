pub mod Faults
pub mod Namespace
pub mod Log
pub mod Pages
pub mod Plan
pub mod RecordText
