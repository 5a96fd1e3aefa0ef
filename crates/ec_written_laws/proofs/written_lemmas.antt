pub mod Calls
pub mod WrittenParts
pub mod WrittenStatements
