pub mod CallsMade
pub mod Faultless
pub mod Placed
