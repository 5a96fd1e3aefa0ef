use Rattle.ec_sim_statement_laws.proofs.expression_lemmas.Expressions.{outer_alike}
use Rattle.ec_sim_statement_laws.proofs.expression_lemmas.Structs.{varchars_alike, objects_alike}
use Rattle.ec_sim_statement_laws.proofs.expression.varchars.written_varchars_are_alike.Goals as goal

pub returns : goal.returns
returns c = record {
  objects = λ at there n name ds e. objects_alike at there n name ds e;
  outer_lengths = λ at there n ds p. outer_alike n varchars_alike at there ds p;
}
