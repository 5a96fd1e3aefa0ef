pub mod Does
pub mod Messages
pub mod Parts
pub mod Taken
