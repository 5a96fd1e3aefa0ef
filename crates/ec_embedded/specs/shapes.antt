pub mod Beginnings
pub mod Laws
pub mod ReadShapes
pub mod Shapes
