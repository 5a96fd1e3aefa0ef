pub mod Headline
pub mod Observed
pub mod Run
