pub mod Answers
pub mod Declared
pub mod Examples
pub mod Lengths
pub mod Places
pub mod Uses
