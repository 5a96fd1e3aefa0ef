pub mod Places
pub mod Stored
