pub mod Cursors
pub mod Examples
pub mod Handlers
pub mod References
