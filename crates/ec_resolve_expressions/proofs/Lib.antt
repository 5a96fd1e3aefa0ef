pub mod Leanings
pub mod Steps
pub mod call_forms_lemmas
