pub mod evaluation
pub mod functions
pub mod observed
pub mod resolved
