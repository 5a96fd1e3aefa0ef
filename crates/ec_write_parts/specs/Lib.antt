pub mod Structs
pub mod Written
