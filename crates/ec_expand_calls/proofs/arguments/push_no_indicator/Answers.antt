use Rattle.ec_expand_calls.proofs.Pushing.{after}
use Rattle.ec_expand_calls.proofs.arguments.push_no_indicator.Goals as goal

pub returns : goal.returns
returns c =
    after c.in_ok-push_symbol.ensures (after c.in_ok-push_null.ensures
    (after c.in_ok-push_long.ensures (after c.in_ok-push_long-2.ensures c.in_ok-push_long-3.ensures)))
