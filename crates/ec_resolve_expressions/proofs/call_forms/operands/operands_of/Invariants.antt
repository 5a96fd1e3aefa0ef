use Rattle.std.proofs.Common.{◌≡◌, take}
use Rattle.ec_resolve_forms.specs.Seen.{founds_view}
use Rattle.ec_resolving_defs.specs.Operands as of
use Rattle.ec_rules.specs.Seen.{operands_view}
use Rattle.ec_resolve_expressions.proofs.call_forms.operands.operands_of.Given as goal

abbrev pub invariant-loop-f : goal.invariant-loop-f
invariant-loop-f l = operands_view l.operands ≡ of.operands_of (founds_view (take l.f-index l.fs))
