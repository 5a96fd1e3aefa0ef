pub mod Bound
pub mod Control
pub mod Marks
pub mod Reading
pub mod Untold
pub mod Words
