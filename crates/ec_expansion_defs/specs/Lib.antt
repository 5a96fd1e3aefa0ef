pub mod CallExamples
pub mod Calls
pub mod Declarations
pub mod Examples
pub mod Handlers
pub mod Lines
pub mod Programs
pub mod Statements
