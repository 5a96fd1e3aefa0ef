pub mod Functions
pub mod Answers
pub mod Mains
pub mod Members
pub mod Objects
pub mod typed
