use Rattle.std.proofs.Common.{◌≡◌, ◌++◌, drop}
use Rattle.ec_ctypes.specs.views.Exprs.{declarators_view}
use Rattle.ec_expansion_defs.specs.Declarations.{varchar_objects}
use Rattle.ec_write_parts.specs.Written.{lines_chunks}
use Rattle.ec_writing_defs.specs.Chunks.{text_of}
use Rattle.ec_write_parts.proofs.declarations.put_varchars.Given as goal

abbrev pub invariant-loop-item : goal.invariant-loop-item
invariant-loop-item l =
    l.out ++ text_of (lines_chunks l.line.0 (varchar_objects l.line.0 (declarators_view (drop l.item-index l.items))))
    ≡ l.initial.out ++ text_of (lines_chunks l.line.0 (varchar_objects l.line.0 (declarators_view l.items)))
