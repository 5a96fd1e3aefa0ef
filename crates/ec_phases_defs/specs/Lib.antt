pub mod First
pub mod Laws
pub mod Sources
pub mod translation
pub mod written
