pub mod Areas
pub mod Words
