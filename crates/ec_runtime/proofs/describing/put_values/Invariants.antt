use Rattle.std.proofs.Common.{◌≡◌, ℕ, Some, drop}
use Rattle.ec_meaning_defs.specs.evaluation.State.{State}
use Rattle.ec_transfer_defs.specs.Area.{IsArea}
use Rattle.ec_call_defs.specs.Areas.{within}
use Rattle.ec_call_defs.specs.Descriptors.{items_set}
use Rattle.ec_runtime.specs.Says.{holding}
use Rattle.ec_runtime.proofs.describing.put_values.Given as goal

abbrev pub invariant-loop-value : goal.invariant-loop-value
invariant-loop-value l = record {
  goes_on : (n : ℕ) → within 1 1000 l.index ≡ Some n → (s : State) → items_set l.line.0 l.called n l.values (holding l.fn.store l.fn.areas s) ≡ items_set l.line.0 l.called n (drop l.value-index l.values) (holding l.store l.areas s);
  area : IsArea l.store;
}
