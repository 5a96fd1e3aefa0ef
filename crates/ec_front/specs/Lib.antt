pub mod source
pub mod translation
pub mod unit
pub mod written
