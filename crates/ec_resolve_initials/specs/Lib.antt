pub mod Filled
pub mod Left
pub mod Spots
