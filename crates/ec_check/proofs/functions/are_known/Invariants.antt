use Rattle.std.proofs.Common.{◌≡◌, drop}
use Rattle.ec_typing_defs.specs.Programs.{are_known}
use Rattle.ec_check.specs.Functions.{types_view}
use Rattle.ec_check.proofs.functions.are_known.Given as goal

abbrev pub invariant-loop-ty : goal.invariant-loop-ty
invariant-loop-ty l = are_known (types_view l.types) ≡ are_known (types_view (drop l.ty-index l.types))
