use Rattle.std.proofs.Common.{◌∙◌, ap}
use Rattle.ec_resolve_values.proofs.conversions_lemmas.Defaults.{other_reversed}
use Rattle.ec_resolving_defs.specs.Conversions as form
use Rattle.ec_resolve_values.proofs.conversions.pointers.of_reversed.Goals as goal

pub returns-in_default : goal.returns-in_default
returns-in_default c = λ x y. c.compared.ensures x y ∙ ap (λ e. form.compared (form.comparison_of c.args.op) e y) (c.to_pointer.ensures x) ∙ other_reversed c.args.op c.args.size c.args.left x y c.in_default.not-And c.in_default.not-Or c.in_default.not-Add
