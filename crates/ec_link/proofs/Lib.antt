pub mod Free
pub mod Opening
pub mod Places
pub mod Ready
pub mod Replies
pub mod Runs
pub mod Steps
pub mod Talks
