pub mod Counting
pub mod Keywords
pub mod Levels
pub mod ListTurns
pub mod SeenTokens
pub mod Sees
pub mod Turns
