pub mod Cells
pub mod Kinds
pub mod Memory
pub mod MemoryExamples
