pub mod Parting
pub mod Printing
