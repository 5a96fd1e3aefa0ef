use Rattle.std.proofs.Common.{◌≡◌, map}
use Rattle.ec_code.specs.Views.{expression_view}
use Rattle.ec_meaning_defs.specs.resolved.Resolved.{slot as object_at}
use Rattle.ec_resolve_values.specs.initial_parts.Parts.{parts_view, stored_each}
use Rattle.ec_resolve_values.proofs.initial_parts.local.each_store.Given as goal

abbrev pub invariant-loop-part : goal.invariant-loop-part
invariant-loop-part l = map expression_view l.stores ≡ stored_each (object_at l.slot) (parts_view l.yielded)
