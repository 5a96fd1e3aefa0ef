pub mod Carrying
pub mod Ending
pub mod Flushing
pub mod Telling
pub mod source_lemmas
