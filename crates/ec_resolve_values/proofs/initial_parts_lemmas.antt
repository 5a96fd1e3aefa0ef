pub mod Knowing
pub mod Stored
