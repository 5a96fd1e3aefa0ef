pub mod CallsBack
pub mod OneReading
