pub mod Parts
pub mod Runs
pub mod Taking
pub mod Texts
