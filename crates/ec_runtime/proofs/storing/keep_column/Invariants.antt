use Rattle.std.proofs.Common.{◌≡◌, drop}
use Rattle.std.specs.Prelude.{Some}
use Rattle.ec_convert.specs.Host.{given_host}
use Rattle.ec_meaning_defs.specs.evaluation.State.{State}
use Rattle.ec_transfer_defs.specs.Area.{IsArea}
use Rattle.ec_transfer_defs.specs.Hosts.{HostData}
use Rattle.ec_call_defs.specs.Outcomes.{with_memory}
use Rattle.ec_call_defs.specs.Storing.{column_kept}
use Rattle.ec_runtime.proofs.storing.keep_column.Given as goal

abbrev pub invariant-loop-row : goal.invariant-loop-row
invariant-loop-row l = record {
  goes_on : (h : HostData) → given_host l.host.place ≡ Some h → (s : State) → column_kept l.line.0 h l.column 0 l.rows (with_memory l.fn.store s) ≡ column_kept l.line.0 h l.column l.row (drop l.row l.rows) (with_memory l.store s);
  area : IsArea l.store;
}
