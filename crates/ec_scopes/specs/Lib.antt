pub mod Counts
pub mod Offsets
pub mod Entries
pub mod Measures
pub mod Puts
pub mod Seen
pub mod Starts
pub mod Structs
