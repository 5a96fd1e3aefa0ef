pub mod Arguments
pub mod Bound
pub mod Pointers
