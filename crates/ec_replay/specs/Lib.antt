pub mod Same
pub mod Part
pub mod Laws
pub mod Replay
pub mod Stops
