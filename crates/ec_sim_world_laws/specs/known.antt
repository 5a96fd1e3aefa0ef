pub mod Known
pub mod Laws
pub mod Positions
pub mod Worlds
