use Rattle.ec_sim_statement_laws.proofs.expression_lemmas.Expressions.{expr_alike, base_alike, lengths_alike}
use Rattle.ec_sim_statement_laws.proofs.expression_lemmas.Structs.{varchars_alike}
use Rattle.ec_sim_statement_laws.proofs.expression.laws.written_expressions_are_alike.Goals as goal

pub returns : goal.returns
returns c = record {
  expressions = λ at there n e p. expr_alike n varchars_alike at there e p;
  types = λ at there n b p. base_alike n varchars_alike at there b p;
  lengths = λ at there n ds p. lengths_alike n varchars_alike at there ds p;
}
