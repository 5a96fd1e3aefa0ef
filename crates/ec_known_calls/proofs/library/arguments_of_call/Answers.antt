use Rattle.ec_known_calls.proofs.Named.{all_forms, all_types}
use Rattle.ec_known_calls.proofs.library.arguments_of_call.Goals as goal
use Rattle.ec_known_calls.proofs.library.arguments_of_call.Goals.{then-loop-i-test+else-i-types, else-loop-i-test}

pub returns : goal.returns
returns c = elim c.loop-i-test.branch [
  | then-loop-i-test+else-i-types w ↦ all_types c.args.forms.now c.args.types.now c.loop-i.i _ _ w.if-i-types.false c.loop-i.invariant.rest
  | else-loop-i-test w ↦ all_forms c.args.forms.now c.args.types.now c.loop-i.i _ _ w.loop-i-test.false c.loop-i.invariant.rest
]
