pub mod source_lemmas
pub mod translation_lemmas
pub mod unit_lemmas
pub mod written_lemmas
