use Rattle.std.specs.Prelude.{false}
use Rattle.ec_meaning_defs.specs.evaluation.Whole.{opening_state, observed}
use Rattle.ec_resolving_defs.specs.Programs.{resolve, embedded_statements_of}
use Rattle.ec_sim_statement_laws.proofs.statement_lemmas.Whole.{programs_same}
use Rattle.ec_sim_statement_laws.proofs.statement.programs.written_programs_do_what_sources_do.Goals as goal

pub returns : goal.returns
returns g = record {
  states = λ t forms calls text p clean s. programs_same t forms calls text p clean s;
  meanings = λ t calls text clean turns ready answers.
      λ j. observed (programs_same t (embedded_statements_of false t.unit) calls text (resolve false t.unit) clean (opening_state ready answers turns) j);
}
