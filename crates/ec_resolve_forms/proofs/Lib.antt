pub mod Following
pub mod Passing
pub mod Reaching
pub mod Sizing
pub mod Uses
pub mod members_lemmas
