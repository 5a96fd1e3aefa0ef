use Rattle.std.proofs.Common.{◌≡◌, ◌++◌, drop}
use Rattle.std.specs.Prelude.{map}
use Rattle.ec_ctypes.specs.views.Units.{top_view}
use Rattle.ec_writing_defs.specs.Chunks.{text_of}
use Rattle.ec_writing_defs.specs.Programs.{tops_chunks}
use Rattle.ec_cwrite.proofs.programs.push_tops.Given as goal

abbrev pub invariant-loop-top : goal.invariant-loop-top
invariant-loop-top l =
    l.out ++ text_of (tops_chunks (map top_view (drop l.top-index l.tops))) ≡ l.initial.out ++ text_of (tops_chunks (map top_view l.tops))
