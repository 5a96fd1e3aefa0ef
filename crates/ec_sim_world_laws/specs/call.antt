pub mod Calls
pub mod Pointers
