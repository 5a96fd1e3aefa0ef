pub mod Examples
pub mod Fits
pub mod Formats
pub mod Laws
pub mod Names
pub mod Operands
