pub mod Accepted
pub mod Meanings
