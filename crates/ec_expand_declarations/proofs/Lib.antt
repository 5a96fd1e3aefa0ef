pub mod Dims
pub mod Members
pub mod Written
