pub mod cursor
pub mod fit
pub mod host
pub mod pointer
pub mod reference
pub mod table
