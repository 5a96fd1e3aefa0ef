pub mod Inside
pub mod Walked
