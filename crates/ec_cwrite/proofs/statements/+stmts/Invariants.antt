use Rattle.std.proofs.Common.{◌≡◌, ◌++◌, drop}
use Rattle.ec_ctypes.specs.views.Stmts.{stmts_view}
use Rattle.ec_writing_defs.specs.Chunks.{text_of}
use Rattle.ec_writing_defs.specs.Programs.{items_chunks}
use Rattle.ec_cwrite.proofs.statements.+stmts.Given as goal

abbrev pub invariant-push_stmts-loop-stmt : goal.invariant-push_stmts-loop-stmt
invariant-push_stmts-loop-stmt l =
    l.out ++ text_of (items_chunks (stmts_view (drop l.stmt-index l.stmts))) ≡ l.initial.out ++ text_of (items_chunks (stmts_view l.stmts))
