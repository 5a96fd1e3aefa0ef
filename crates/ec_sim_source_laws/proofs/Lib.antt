pub mod block_lemmas
pub mod count_lemmas
pub mod meaning_lemmas
pub mod object_lemmas
pub mod run_lemmas
pub mod section_lemmas
