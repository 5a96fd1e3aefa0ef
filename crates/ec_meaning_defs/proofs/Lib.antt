pub mod evaluation_lemmas
