use Rattle.ec_resolve_values.proofs.conversions_lemmas.Cases.{binary, element, unary, compound, bumped}
use Rattle.ec_resolve_values.proofs.conversions.laws.operators_know_scalars.Goals as goal

pub returns-clause-binary : goal.returns-clause-binary
returns-clause-binary c = binary

pub returns-clause-element : goal.returns-clause-element
returns-clause-element c = element

pub returns-clause-unary : goal.returns-clause-unary
returns-clause-unary c = unary

pub returns-clause-compound : goal.returns-clause-compound
returns-clause-compound c = compound

pub returns-clause-bumped : goal.returns-clause-bumped
returns-clause-bumped c = bumped
