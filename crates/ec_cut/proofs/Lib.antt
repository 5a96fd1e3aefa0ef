pub mod CasesAre
pub mod Found
pub mod written_lemmas
