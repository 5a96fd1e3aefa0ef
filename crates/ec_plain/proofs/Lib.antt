pub mod Numbers
pub mod Quotients
pub mod Walks
pub mod Sums
