pub mod Calls
pub mod Going
pub mod Step
pub mod Tests
