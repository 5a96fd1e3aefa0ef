pub mod Filling
pub mod Opens
