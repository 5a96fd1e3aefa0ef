pub mod library_step_lemmas
