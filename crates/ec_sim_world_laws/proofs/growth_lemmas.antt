pub mod EmbeddedRules
pub mod Expressions
pub mod Initializers
pub mod Operands
pub mod Programs
pub mod Rules
pub mod Statements
