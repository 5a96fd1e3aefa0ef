pub mod Statements
pub mod StatementTexts
pub mod WrittenSources
