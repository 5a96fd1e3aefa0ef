pub mod Derived
pub mod Directives
pub mod Lengths
pub mod Sources
pub mod Standing
pub mod Tokens
pub mod Trees
