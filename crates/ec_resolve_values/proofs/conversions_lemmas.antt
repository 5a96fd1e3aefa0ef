pub mod Cases
pub mod Defaults
