pub mod Going
pub mod Others
pub mod Sharing
pub mod Stepped
