pub mod Written
pub mod Sources
pub mod Agreement
