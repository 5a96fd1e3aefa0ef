pub mod Answered
pub mod Formats
pub mod Forms
pub mod Found
pub mod Known
pub mod Lists
