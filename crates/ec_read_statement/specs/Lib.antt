pub mod Answers
pub mod Deciding
pub mod Laws
pub mod left_out
