pub mod bound
pub mod kept
pub mod source
pub mod written
pub mod written_sources
