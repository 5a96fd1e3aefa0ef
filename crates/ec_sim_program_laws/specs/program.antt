pub mod Copied
pub mod Declared
pub mod Embedded
pub mod Laws
pub mod Programs
pub mod Shape
