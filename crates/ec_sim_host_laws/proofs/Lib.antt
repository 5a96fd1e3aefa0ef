pub mod cursor_lemmas
pub mod fit_lemmas
pub mod host_lemmas
pub mod pointer_lemmas
pub mod reference_lemmas
pub mod table_lemmas
