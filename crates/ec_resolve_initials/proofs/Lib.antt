pub mod Aiming
pub mod Spotting
