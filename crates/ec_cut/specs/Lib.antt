pub mod ByType
pub mod Cases
pub mod Reads
pub mod Views
pub mod Keeping
pub mod written
