pub mod Leanings
pub mod Trees
pub mod Steps
