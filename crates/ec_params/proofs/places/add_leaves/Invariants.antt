use Rattle.std.proofs.Common.{◌≡◌, ◌++◌, map, length}
use Rattle.ec_ctypes.specs.views.Checked.{place_view}
use Rattle.ec_ctypes.specs.views.Embedded.{host_view}
use Rattle.ec_ctypes.specs.views.Types.{structs_view}
use Rattle.ec_host_defs.specs.Leaves.{paired}
use Rattle.ec_host_defs.specs.Places.{leaf_place}
use Rattle.ec_leaves.specs.Seen.{leaf_view}
use Rattle.ec_params.proofs.places.add_leaves.Given as goal

-- what is done and what is left are the whole
abbrev pub invariant-loop-left : goal.invariant-loop-left
invariant-loop-left l =
    map place_view l.places ++ map (leaf_place (structs_view l.structs) (host_view l.host).value (host_view l.host).indicator) (paired (map leaf_view l.left) (map leaf_view l.beside))
    ≡ map place_view l.initial.places ++ map (leaf_place (structs_view l.structs) (host_view l.host).value (host_view l.host).indicator) (paired (map leaf_view l.leaves) (map leaf_view l.inner))

abbrev pub decreases-loop-left : goal.decreases-loop-left
decreases-loop-left l = length l.left
