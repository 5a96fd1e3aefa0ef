pub mod Computed
pub mod Outcomes
pub mod Sorts
pub mod Sound
pub mod Types
pub mod Written
