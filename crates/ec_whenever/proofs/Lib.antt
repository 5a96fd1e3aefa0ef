pub mod Searching
pub mod Tables
