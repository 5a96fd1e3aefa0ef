pub mod bound_lemmas
pub mod kept_lemmas
pub mod source_lemmas
pub mod written_lemmas
pub mod written_sources_lemmas
