use Rattle.std.proofs.Common.{rules}
use Rattle.std.proofs.lemmas.Int.{to_z-of_z}
use Rattle.std.specs.Int.{w128}
use Rattle.std.specs.Prelude.{FitsSigned}
use Rattle.ec_type_rules.proofs.Values.{value_of}
use Rattle.ec_type_rules.proofs.constants.values.value_in.Goals as goal

pub returns-clause-fits : goal.returns-clause-fits
returns-clause-fits c =
    let fits : FitsSigned w128 c.convert.result = search rules in
    simp to_z-of_z (value_of c.convert.ensures.rule)
