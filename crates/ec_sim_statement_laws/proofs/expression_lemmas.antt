pub mod AlikeInitializers
pub mod Expressions
pub mod Plain
pub mod Structs
