use Rattle.std.specs.Prelude.{false}
use Rattle.ec_meaning_defs.specs.evaluation.Whole.{opening_state, observed}
use Rattle.ec_resolving_defs.specs.Programs.{resolve, embedded_statements_of}
use Rattle.ec_sim_statement_laws.proofs.statement_lemmas.Whole.{copies_same}
use Rattle.ec_sim_statement_laws.proofs.statement.programs.copies_do_what_sources_do.Goals as goal

pub returns : goal.returns
returns g = record {
  states = λ t forms calls p q copy s. copies_same t forms calls p q copy s;
  meanings = λ t calls q copy turns ready answers.
      λ j. observed (copies_same t (embedded_statements_of false t.unit) calls (resolve false t.unit) q copy (opening_state ready answers turns) j);
}
