pub mod Arguments
pub mod Examples
pub mod Reading
pub mod Rules
pub mod Writing
