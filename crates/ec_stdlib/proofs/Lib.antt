pub mod Numerals
pub mod Parts
pub mod SingleReads
pub mod Texts
