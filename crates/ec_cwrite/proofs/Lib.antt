pub mod Lists
pub mod Remains
pub mod Writing
