pub mod Around
pub mod Begun
pub mod Bodies
pub mod Filled
pub mod ForParts
pub mod Objects
pub mod Scopes
