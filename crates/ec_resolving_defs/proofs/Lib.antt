pub mod Agreeing
pub mod AgreeingPrograms
