pub mod Laws
pub mod Readers
pub mod Views
