pub mod Pointers
