pub mod AllArguments
pub mod BoundSame
pub mod OwnLeaves
pub mod Pointers
