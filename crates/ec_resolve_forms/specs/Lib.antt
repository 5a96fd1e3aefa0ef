pub mod Arguments
pub mod Readings
pub mod Seen
pub mod members
