pub mod Accepting
pub mod Binding
pub mod Copied
pub mod Indexes
pub mod Numbers
pub mod Opening
pub mod Passing
pub mod Standing
