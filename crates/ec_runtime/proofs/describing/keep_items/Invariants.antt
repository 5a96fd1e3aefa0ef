use Rattle.std.proofs.Common.{◌≡◌, drop, map}
use Rattle.ec_meaning_defs.specs.evaluation.State.{State}
use Rattle.ec_transfer_defs.specs.Area.{IsArea}
use Rattle.ec_call_defs.specs.Descriptors.{items_stored}
use Rattle.ec_call_defs.specs.Outcomes.{with_memory}
use Rattle.ec_descriptors.specs.Views.{item_view}
use Rattle.ec_runtime.specs.Statements.{got_view}
use Rattle.ec_runtime.proofs.describing.keep_items.Given as goal

abbrev pub invariant-loop-one : goal.invariant-loop-one
invariant-loop-one l = record {
  goes_on : (s : State) → items_stored l.line.0 l.asked (item_view l.item) (map got_view l.wanted) (with_memory l.fn.store s) ≡ items_stored l.line.0 l.asked (item_view l.item) (map got_view (drop l.one-index l.wanted)) (with_memory l.store s);
  area : IsArea l.store;
}
