pub mod Again
pub mod Both
pub mod Growing
pub mod Names
