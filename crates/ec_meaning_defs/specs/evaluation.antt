pub mod Agree
pub mod Evaluate
pub mod Examples
pub mod Execute
pub mod Expanded
pub mod Results
pub mod State
pub mod Whole
