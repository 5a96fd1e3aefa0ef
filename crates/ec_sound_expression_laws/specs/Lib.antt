pub mod Arguments
pub mod Laws
pub mod Plain
pub mod Standing
