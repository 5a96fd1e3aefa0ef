pub mod Binding
pub mod Indexes
pub mod Long
pub mod Numbers
pub mod Opening
pub mod Sources
pub mod Statements
pub mod WalkAgrees
