pub mod Described
pub mod Growing
pub mod Once
pub mod Parts
pub mod Silent
pub mod Staying
