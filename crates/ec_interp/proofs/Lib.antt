pub mod Stepping
pub mod Whole
pub mod opening_lemmas
pub mod running_lemmas
