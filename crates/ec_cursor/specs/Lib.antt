pub mod Branches
pub mod Nests
pub mod Parts
pub mod Sees
pub mod States
