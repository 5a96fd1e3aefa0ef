pub mod Derived
pub mod Includes
pub mod LineUnits
pub mod SourceTokens
pub mod Values
pub mod Parts
pub mod Steps
