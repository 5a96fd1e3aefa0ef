pub mod Checks
pub mod Reading
pub mod Trees
pub mod Wholes
