pub mod Nests
pub mod Primaries
pub mod Ranks
