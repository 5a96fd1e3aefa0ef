pub mod Codes
pub mod Hosts
pub mod Conversion
pub mod Area
pub mod Examples
