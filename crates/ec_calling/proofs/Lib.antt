mod Carrying
mod Evaluating
pub mod Held
pub mod Noting
mod Staying
mod Stepping
