pub mod Bodies
pub mod Laws
pub mod Plain
pub mod Programs
pub mod Standing
