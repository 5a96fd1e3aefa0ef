use Rattle.ec_expand_calls.proofs.Pushing.{after}
use Rattle.ec_expand_calls.proofs.calls.push_lists.Goals as goal

pub returns : goal.returns
returns c = after c.in_ok-push_members.ensures (after c.in_ok-push_symbol.ensures (after c.in_ok-push_members-2.ensures c.in_ok-push_symbol-2.ensures))
