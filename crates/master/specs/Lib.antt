pub mod VolumeText
pub mod HeartbeatText
pub mod HeartbeatReading
pub mod HeartbeatWriting
pub mod ReadBack
pub mod Turns
pub mod Runs
