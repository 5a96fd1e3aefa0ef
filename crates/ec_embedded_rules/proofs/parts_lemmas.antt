pub mod CursorTables
pub mod Lists
pub mod Ordered
