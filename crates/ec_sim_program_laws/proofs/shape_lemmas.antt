pub mod Forms
pub mod Parts
pub mod SentParts
pub mod StatementsRead
