pub mod Flat
pub mod Types
