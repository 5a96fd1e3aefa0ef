pub mod Answers
pub mod Ends
pub mod Executables
pub mod Runs
pub mod source
