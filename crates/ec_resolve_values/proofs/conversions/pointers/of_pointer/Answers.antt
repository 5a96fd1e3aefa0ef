use Rattle.std.proofs.Common.{◌∙◌, ap}
use Rattle.ec_resolve_values.proofs.conversions_lemmas.Defaults.{other_pointer}
use Rattle.ec_resolving_defs.specs.Conversions as form
use Rattle.ec_resolve_values.proofs.conversions.pointers.of_pointer.Goals as goal

pub returns-in_default : goal.returns-in_default
returns-in_default c = λ x y. c.compared.ensures x y ∙ ap (form.compared (form.comparison_of c.args.op) x) (c.to_pointer.ensures y) ∙ other_pointer c.args.op c.args.size x c.args.right y c.in_default.not-And c.in_default.not-Or c.in_default.not-Add c.in_default.not-Sub
