pub mod Answered
pub mod Numbers
pub mod Outcomes
pub mod Ready
pub mod Steps
