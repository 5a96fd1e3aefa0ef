pub mod RankOperators
pub mod RankSteps
