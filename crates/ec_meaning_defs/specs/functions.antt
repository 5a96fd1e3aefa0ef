pub mod Examples
pub mod Formats
pub mod Functions
pub mod Printing
pub mod Strings
