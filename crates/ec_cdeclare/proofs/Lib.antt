pub mod NoVoid
pub mod StarCounts
