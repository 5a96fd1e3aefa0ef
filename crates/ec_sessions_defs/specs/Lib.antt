pub mod Events
pub mod Examples
pub mod Many
pub mod Shown
pub mod Sources
