use Rattle.std.proofs.Common.{◌≡◌, map, take}
use Rattle.ec_ctypes.specs.views.Types.{ty_view}
use Rattle.ec_known.specs.Functions.{simple_type}
use Rattle.ec_known.proofs.functions.types.Given as goal

abbrev pub invariant-loop-one : goal.invariant-loop-one
invariant-loop-one l = map ty_view l.types ≡ map simple_type (take l.one-index l.simple)
