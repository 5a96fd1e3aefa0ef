pub mod Places
pub mod Resuming
pub mod Saying
