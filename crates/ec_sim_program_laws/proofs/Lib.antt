pub mod directive_lemmas
pub mod flat_lemmas
pub mod program_lemmas
pub mod shape_lemmas
pub mod standing_lemmas
pub mod types_lemmas
