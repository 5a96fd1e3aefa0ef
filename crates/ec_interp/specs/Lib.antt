pub mod Ends
pub mod Stepping
pub mod opening
pub mod running
