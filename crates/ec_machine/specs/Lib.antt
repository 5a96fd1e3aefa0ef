pub mod Arguments
pub mod Found
pub mod Frames
pub mod Goes
pub mod Quick
pub mod Standing
pub mod Weights
