use Rattle.ec_resolve_values.proofs.conversions_lemmas.Defaults.{other_steps}
use Rattle.ec_resolve_values.proofs.conversions.pointers.pointer_step.Goals as goal

pub returns-in_default : goal.returns-in_default
returns-in_default c = other_steps c.args.op c.args.size c.in_default.not-Add c.in_default.not-Sub
