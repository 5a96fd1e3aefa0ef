pub mod Readers
pub mod Views
