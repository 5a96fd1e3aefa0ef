pub mod Answers
pub mod Counting
pub mod Scanning
pub mod Seen
pub mod Walking
