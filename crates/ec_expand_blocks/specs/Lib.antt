pub mod Blocks
pub mod cursors
