pub mod Places
pub mod References
pub mod Statements
pub mod Structs
