pub mod argument
pub mod expression
pub mod statement
