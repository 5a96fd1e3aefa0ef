use Rattle.std.proofs.Common.{◌≡◌, map}
use Rattle.ec_calling.specs.Views as made
use Rattle.ec_resolve_values.specs.storage.Stored as stored
use Rattle.ec_execute.proofs.calls.calls_of.Given as goal

abbrev pub invariant-loop-call : goal.invariant-loop-call
invariant-loop-call l = map made.call_view l.given ≡ map stored.call_view l.yielded
