pub mod block
pub mod count
pub mod meaning
pub mod object
pub mod run
pub mod section
