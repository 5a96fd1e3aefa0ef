pub mod Laws
pub mod Readers
pub mod States
