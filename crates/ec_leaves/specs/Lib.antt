pub mod Adding
pub mod Cases
pub mod Going
pub mod Seen
