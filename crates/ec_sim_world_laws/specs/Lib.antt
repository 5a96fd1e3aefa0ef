pub mod call
pub mod closing
pub mod growth
pub mod known
pub mod place
pub mod test
