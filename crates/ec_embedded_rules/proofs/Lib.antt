pub mod Denoting
pub mod Instead
pub mod Loops
pub mod parts_lemmas
