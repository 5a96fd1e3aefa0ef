pub mod Finding
pub mod KnownNames
pub mod Making
pub mod Parts
pub mod ReferencesLie
pub mod Staying
