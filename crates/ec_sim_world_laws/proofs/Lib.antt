pub mod call_lemmas
pub mod closing_lemmas
pub mod growth_lemmas
pub mod known_lemmas
pub mod place_lemmas
pub mod test_lemmas
