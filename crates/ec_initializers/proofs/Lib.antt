pub mod FrameLemmas
pub mod FillLemmas
