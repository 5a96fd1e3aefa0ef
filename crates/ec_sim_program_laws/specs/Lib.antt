pub mod directive
pub mod flat
pub mod program
pub mod shape
pub mod standing
pub mod types
