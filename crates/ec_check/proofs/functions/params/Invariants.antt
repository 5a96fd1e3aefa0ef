use Rattle.std.proofs.Common.{◌++◌, drop, map}
use Rattle.ec_ctypes.specs.views.Units.{param_view}
use Rattle.ec_scopes.specs.Entries.{place_view, type_view}
use Rattle.ec_scopes.specs.Seen.{world_of, notes_of}
use Rattle.ec_scopes.proofs.Steps.{Goes}
use Rattle.ec_typing_defs.specs.Programs.{params}
use Rattle.ec_check.proofs.functions.params.Given as goal

abbrev pub invariant-loop-p : goal.invariant-loop-p
invariant-loop-p l =
    Goes (params (place_view l.at) l.is_defined (map param_view l.ps) (world_of l.fn.checker)) (notes_of l.fn.checker)
    (params (place_view l.at) l.is_defined (map param_view (drop l.p-index l.ps)) (world_of l.checker)) (notes_of l.checker) (λ ts. map type_view l.types ++ ts)
