pub mod Mapped
pub mod Parts
pub mod Quotes
pub mod Steps
pub mod Turns
mod Undoubled
