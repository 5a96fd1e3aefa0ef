pub mod Area
pub mod Laws
pub mod Plain
