pub mod Giving
pub mod Held
pub mod Laws
pub mod Leading
pub mod Making
pub mod Serving
pub mod Views
