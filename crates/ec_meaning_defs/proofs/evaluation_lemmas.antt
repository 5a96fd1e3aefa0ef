pub mod Asking
pub mod Induction
pub mod WholeRuns
