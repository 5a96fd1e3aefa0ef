use Rattle.std.proofs.Common.{◌≡◌, map}
use Rattle.ec_scopes.specs.Entries.{type_view}
use Rattle.ec_rules.specs.Seen.{operands_view}
use Rattle.ec_typing_defs.specs.Operands.{types_of}
use Rattle.ec_rules.proofs.calls.types_of.Given as goal

abbrev pub invariant-loop-operand : goal.invariant-loop-operand
invariant-loop-operand l = map type_view l.types ≡ types_of (operands_view l.yielded)
