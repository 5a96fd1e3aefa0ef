pub mod Alone
pub mod HostAlone
pub mod CutSteps
pub mod Longest
