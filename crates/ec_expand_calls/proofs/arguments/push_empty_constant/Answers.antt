use Rattle.ec_expand_calls.proofs.Pushing.{after}
use Rattle.ec_expand_calls.proofs.arguments.push_empty_constant.Goals as goal

pub returns : goal.returns
returns c = after c.in_ok-push_symbol.ensures (after c.in_ok-push_literal.ensures (after c.in_ok-push_numbers.ensures c.in_ok-push_no_indicator.ensures))
