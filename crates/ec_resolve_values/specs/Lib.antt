pub mod conversions
pub mod initial_parts
pub mod storage
