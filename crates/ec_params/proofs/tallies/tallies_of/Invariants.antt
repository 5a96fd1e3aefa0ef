use Rattle.std.proofs.Common.{◌≡◌, [], drop}
use Rattle.ec_ctypes.specs.views.Types.{structs_view}
use Rattle.ec_params.specs.Tallies.{with_tallies}
use Rattle.ec_params.proofs.tallies.tallies_of.Given as goal

abbrev pub invariant-loop-definition : goal.invariant-loop-definition
invariant-loop-definition l =
    with_tallies (structs_view l.structs) l.tallies (structs_view (drop l.definition-index l.definitions))
    ≡ with_tallies (structs_view l.structs) [] (structs_view l.definitions)
