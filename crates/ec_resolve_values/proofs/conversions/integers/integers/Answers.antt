use Rattle.std.proofs.Common.{◌∙◌}
use Rattle.ec_resolve_values.proofs.conversions_lemmas.Defaults.{others}
use Rattle.ec_resolve_values.proofs.conversions.integers.integers.Goals as goal

pub returns-in_default : goal.returns-in_default
returns-in_default c = λ x y. c.operated.ensures x y ∙ others c.args.op c.args.a x c.args.b y c.in_default.not-And c.in_default.not-Or
