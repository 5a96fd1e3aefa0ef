use Rattle.std.proofs.Common.{◌≡◌, ◌<◌, length}
use Rattle.ec_ctypes.specs.views.Types.{structs_view}
use Rattle.ec_leaves.specs.Going as spec
use Rattle.ec_leaves.proofs.going.run.Given as goal

abbrev pub invariant-loop-turn : goal.invariant-loop-turn
invariant-loop-turn l = record {
  same : spec.whole (structs_view l.structs) l.frame l.walk ≡ spec.whole (structs_view l.structs) l.frame l.initial.walk;
  depth : length l.walk.outer < length (structs_view l.structs);
}
