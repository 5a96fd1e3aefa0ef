pub mod DeclaratorLoops
pub mod Filling
pub mod Loops
pub mod Scoping
pub mod Seeing
