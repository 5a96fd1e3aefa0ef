pub mod Answers
pub mod Items
pub mod Lexing
pub mod Lines
pub mod Marks
pub mod Numbers
pub mod Quotes
pub mod Sql
