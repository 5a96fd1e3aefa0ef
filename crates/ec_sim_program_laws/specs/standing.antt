pub mod There
pub mod Varchars
