use Rattle.ec_language.proofs.Decided.{tree_derived, derived_tree, fits_front, front_fits, goes_on_front, front_goes_on}
use Rattle.ec_language.proofs.Unlimited.{unlimited_derives, derives_unlimited, made, unmade}
use Rattle.ec_language.proofs.syntax_laws.grammar_laws.Goals as goal

pub returns : goal.returns
returns c = record {
  derived = λ limits s w v. (derived_tree limits s w v, tree_derived limits s w v);
  front = λ limits s u. (front_fits limits s u, fits_front limits s u);
  unlimited = λ s w v. (derives_unlimited s w v, unlimited_derives s w v);
  made = λ s w v. (unmade s w v, made s w v);
  front_of_any_limits = λ s u. (front_goes_on s u, goes_on_front s u);
}
