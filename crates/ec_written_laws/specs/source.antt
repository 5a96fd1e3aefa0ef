pub mod Kept
pub mod SourceShape
