pub mod Descriptors
pub mod NameSorts
pub mod Telling
