pub mod Checked
pub mod Embedded
pub mod Exprs
pub mod Stmts
pub mod Tokens
pub mod Types
pub mod Units
