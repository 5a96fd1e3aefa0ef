pub mod Forms
pub mod Functions
