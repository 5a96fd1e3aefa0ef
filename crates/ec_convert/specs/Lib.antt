pub mod Answers
pub mod Calls
pub mod Elements
pub mod Host
pub mod Pieces
