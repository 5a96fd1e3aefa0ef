pub mod Functions
pub mod Labels
pub mod Objects
pub mod Scopes
pub mod Sites
pub mod Values
