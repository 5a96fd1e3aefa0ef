pub mod Counting
pub mod Entries
pub mod Made
pub mod Types
