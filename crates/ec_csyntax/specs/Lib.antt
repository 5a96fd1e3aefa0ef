pub mod Answers
pub mod Arms
pub mod Forms
pub mod Levels
pub mod Nests
pub mod Texts
pub mod Tops
pub mod Views
