pub mod Conversions
pub mod Library
pub mod Taking
