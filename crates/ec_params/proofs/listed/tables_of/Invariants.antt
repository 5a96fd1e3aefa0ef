use Rattle.std.proofs.Common.{◌≡◌, ◌++◌, drop, map}
use Rattle.ec_ctypes.specs.views.Types.{structs_view}
use Rattle.ec_params.specs.Listed.{places_of}
use Rattle.ec_params.proofs.listed.tables_of.Given as goal

abbrev pub invariant-loop-definition : goal.invariant-loop-definition
invariant-loop-definition l = l.tables ++ map places_of (structs_view (drop l.definition-index l.definitions)) ≡ map places_of (structs_view l.definitions)
