pub mod Counted
pub mod Feeding
pub mod First
pub mod Joining
pub mod Walked
