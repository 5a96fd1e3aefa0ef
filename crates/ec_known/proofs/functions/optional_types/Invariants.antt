use Rattle.std.proofs.Common.{◌≡◌, map, Some, option_map}
use Rattle.ec_ctypes.specs.views.Types.{ty_view}
use Rattle.ec_known.proofs.functions.optional_types.Given as goal

abbrev pub invariant-loop-ty : goal.invariant-loop-ty
invariant-loop-ty l = map (option_map ty_view) l.all ≡ map Some (map ty_view l.yielded)
