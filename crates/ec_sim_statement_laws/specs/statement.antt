pub mod Blocks
pub mod Calls
pub mod Clean
pub mod Copies
pub mod Lives
pub mod Steps
pub mod Tests
pub mod Whole
