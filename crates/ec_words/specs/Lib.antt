pub mod Words
pub mod Links
pub mod Line
pub mod Reading
pub mod Examples
