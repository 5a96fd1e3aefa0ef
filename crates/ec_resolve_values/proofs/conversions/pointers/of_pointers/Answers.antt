use Rattle.std.proofs.Common.{◌∙◌}
use Rattle.ec_resolve_values.proofs.conversions_lemmas.Defaults.{other_pointers}
use Rattle.ec_resolve_values.proofs.conversions.pointers.of_pointers.Goals as goal

pub returns-in_default : goal.returns-in_default
returns-in_default c = λ x y. c.compared.ensures x y ∙ other_pointers c.args.op c.args.size x y c.in_default.not-And c.in_default.not-Or c.in_default.not-Sub
