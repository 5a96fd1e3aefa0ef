pub mod Gathering
pub mod Readings
pub mod formats
