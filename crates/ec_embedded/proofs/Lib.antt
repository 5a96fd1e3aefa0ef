mod Deterministic
pub mod Found
pub mod OneAnswer
pub mod Sound
pub mod shapes_lemmas
