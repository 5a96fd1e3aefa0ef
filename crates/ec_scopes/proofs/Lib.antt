pub mod Closings
pub mod HostCounts
pub mod Loops
pub mod Sizes
pub mod Starting
pub mod Steps
pub mod Tables
pub mod Views
