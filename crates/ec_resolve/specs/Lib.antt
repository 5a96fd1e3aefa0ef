pub mod Clean
pub mod Functions
pub mod Params
