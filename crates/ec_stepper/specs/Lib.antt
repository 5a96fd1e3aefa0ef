pub mod Advancing
pub mod Ready
pub mod Running
pub mod Sharing
pub mod Standing
