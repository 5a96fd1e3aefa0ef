pub mod Labels
pub mod OperationExamples
pub mod Operations
pub mod Programs
pub mod Resolved
