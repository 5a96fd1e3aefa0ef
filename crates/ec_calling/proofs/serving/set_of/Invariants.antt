use Rattle.std.proofs.Common.{◌≡◌, ◌++◌, drop, map}
use Rattle.ec_runtime.specs.Statements.{set_view}
use Rattle.ec_calling.specs.Serving.{items_seen}
use Rattle.ec_calling.proofs.serving.set_of.Given as goal

abbrev pub invariant-loop-item : goal.invariant-loop-item
invariant-loop-item l = map set_view l.made ++ items_seen (drop l.item-index l.items) ≡ items_seen l.items
