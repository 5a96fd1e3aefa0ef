pub mod Crosses
pub mod Filling
pub mod Layouts
pub mod Memory
pub mod Sharing
