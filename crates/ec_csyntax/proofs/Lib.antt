pub mod Answered
pub mod Embedded
pub mod Externals
pub mod FormSteps
pub mod Levels
pub mod Lines
pub mod Trees
