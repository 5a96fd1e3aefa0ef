pub mod Halts
pub mod LibraryRuns
pub mod Printing
pub mod Runs
pub mod Sessions
