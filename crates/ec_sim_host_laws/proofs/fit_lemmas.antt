pub mod Elements
pub mod Hosts
pub mod Indicators
pub mod Leaves
pub mod Options
pub mod Structs
pub mod Types
pub mod Ways
