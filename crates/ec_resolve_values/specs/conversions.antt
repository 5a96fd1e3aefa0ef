pub mod Forms
pub mod Scalars
