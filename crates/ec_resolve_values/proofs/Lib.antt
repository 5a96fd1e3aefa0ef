pub mod conversions_lemmas
pub mod initial_parts_lemmas
pub mod storage_lemmas
