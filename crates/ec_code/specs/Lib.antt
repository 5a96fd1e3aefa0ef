pub mod Marks
pub mod Numbers
pub mod Objects
pub mod Trees
pub mod Views
