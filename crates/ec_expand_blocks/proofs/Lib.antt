pub mod Listed
pub mod cursors_lemmas
