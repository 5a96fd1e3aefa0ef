pub mod Endings
pub mod Laws
pub mod Read
pub mod Runs
pub mod Texts
