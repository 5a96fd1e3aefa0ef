pub mod Firsts
pub mod Listed
pub mod Loops
pub mod Seeing
pub mod Told
pub mod typed_lemmas
