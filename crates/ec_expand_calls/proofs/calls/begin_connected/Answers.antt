use Rattle.ec_expand_calls.proofs.Pushing.{after}
use Rattle.ec_expand_calls.proofs.calls.begin_connected.Goals as goal

pub returns : goal.returns
returns c = after c.in_ok-args.ensures c.in_ok-push_text_at.ensures
