use Rattle.std.proofs.Common.{◌≡◌, ◌-◌, ◌≤◌, ◌++◌, length, drop}
use Rattle.ec_ctypes.specs.views.Exprs.{exprs_view}
use Rattle.ec_typing_defs.specs.Library.{arguments_of_call}
use Rattle.ec_known_calls.specs.Library.{all_seen}
use Rattle.ec_known_calls.specs.Taking.{types_view}
use Rattle.ec_known_calls.proofs.library.arguments_of_call.Given as goal

abbrev pub invariant-loop-i : goal.invariant-loop-i
invariant-loop-i l = record {
  forms : l.i ≤ length l.forms;
  types : l.i ≤ length l.types;
  rest : all_seen l.list ++ arguments_of_call (exprs_view (drop l.i l.forms)) (types_view (drop l.i l.types)) ≡ arguments_of_call (exprs_view l.forms) (types_view l.types);
}

abbrev pub decreases-loop-i : goal.decreases-loop-i
decreases-loop-i l = length l.forms - l.i
