pub mod exact_lemmas
