pub mod Chunks
pub mod Examples
pub mod Expressions
pub mod Programs
pub mod Shapes
