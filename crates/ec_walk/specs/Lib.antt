pub mod Dims
pub mod Spines
