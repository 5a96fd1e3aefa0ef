pub mod argument_lemmas
pub mod expression_lemmas
pub mod statement_lemmas
