pub mod FieldNumbers
pub mod BackAgain
pub mod Putting
