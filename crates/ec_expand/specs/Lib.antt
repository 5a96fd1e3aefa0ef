pub mod Lists
pub mod Pushed
