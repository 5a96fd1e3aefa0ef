pub mod BoundLists
pub mod Telling
