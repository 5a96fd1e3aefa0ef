mod AsRead
mod Declared
pub mod Lines
