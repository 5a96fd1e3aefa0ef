use Rattle.std.proofs.Common.{◌≡◌, drop, map}
use Rattle.ec_call_defs.specs.Descriptors.{asks_indicator}
use Rattle.ec_runtime.specs.Statements.{got_view}
use Rattle.ec_runtime.proofs.describing.asks_indicator.Given as goal

abbrev pub invariant-loop-one : goal.invariant-loop-one
invariant-loop-one l = asks_indicator (map got_view l.wanted) ≡ asks_indicator (map got_view (drop l.one-index l.wanted))
