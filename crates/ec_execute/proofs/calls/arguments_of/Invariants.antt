use Rattle.std.proofs.Common.{◌≡◌, map}
use Rattle.ec_calling.specs.Views as made
use Rattle.ec_resolve_values.specs.storage.Stored as stored
use Rattle.ec_execute.proofs.calls.arguments_of.Given as goal

abbrev pub invariant-loop-argument : goal.invariant-loop-argument
invariant-loop-argument l = map made.argument_view l.given ≡ map stored.argument_view l.yielded
