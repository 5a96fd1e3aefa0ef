pub mod Alike
pub mod Conditions
pub mod Finding
pub mod Handlers
pub mod Layouts
pub mod Looking
pub mod Steps
pub mod Tests
