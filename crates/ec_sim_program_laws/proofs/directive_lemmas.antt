pub mod Gone
pub mod Making
pub mod Staying
pub mod Unwritten
