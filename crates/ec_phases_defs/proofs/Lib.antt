pub mod FirstRefusals
pub mod OneReading
pub mod Order
pub mod Places
pub mod translation_lemmas
pub mod written_lemmas
