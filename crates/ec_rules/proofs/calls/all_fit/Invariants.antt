use Rattle.std.proofs.Common.{◌≡◌, ◌-◌, ◌≤◌, length, drop, map}
use Rattle.ec_scopes.specs.Entries.{type_view}
use Rattle.ec_typing_defs.specs.Operands.{all_fit}
use Rattle.ec_rules.specs.Seen.{operand_view}
use Rattle.ec_rules.proofs.calls.all_fit.Given as goal

abbrev pub invariant-loop-i : goal.invariant-loop-i
invariant-loop-i l = record {
  params : l.i ≤ length l.params;
  arguments : l.i ≤ length l.arguments;
  rest : all_fit (map type_view (drop l.i l.params)) (map operand_view (drop l.i l.arguments)) ≡ all_fit (map type_view l.params) (map operand_view l.arguments);
}

abbrev pub decreases-loop-i : goal.decreases-loop-i
decreases-loop-i l = length l.params - l.i
