pub mod FormsDecided
pub mod Telling
pub mod left_out_lemmas
