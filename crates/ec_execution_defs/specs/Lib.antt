pub mod Laws
pub mod Programs
pub mod Runs
