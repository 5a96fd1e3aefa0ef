pub mod Equality
pub mod Parts
