pub mod GlobalCounts
pub mod Lengths
pub mod Loops
