use Rattle.std.proofs.Common.{◌≡◌, drop}
use Rattle.ec_meaning_defs.specs.evaluation.State.{State}
use Rattle.ec_transfer_defs.specs.Area.{IsArea}
use Rattle.ec_call_defs.specs.Outcomes.{with_memory}
use Rattle.ec_call_defs.specs.Storing.{targets_kept}
use Rattle.ec_runtime.specs.Views.{hosts_view}
use Rattle.ec_runtime.proofs.storing.keep_targets.Given as goal

abbrev pub invariant-loop-column : goal.invariant-loop-column
invariant-loop-column l = record {
  goes_on : (s : State) → targets_kept l.line.0 0 (hosts_view l.hosts) l.rows (with_memory l.fn.store s) ≡ targets_kept l.line.0 l.column (hosts_view (drop l.column l.hosts)) l.rows (with_memory l.store s);
  area : IsArea l.store;
}
