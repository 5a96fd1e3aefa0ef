-- What is written in the place of an embedded statement, by the program and what is bound for its statements.
use Rattle.std.specs.Prelude.{ℕ, List, map, Option}
use Rattle.ec_ctypes.specs.declared.checked.bound.Bound.{Bound}
use Rattle.ec_ctypes.specs.declared.checked.typed.Typed.{Typed}
use Rattle.ec_ctypes.specs.trees.Stmts.{StmtKindData}
use Rattle.ec_ctypes.specs.views.Checked.{typed_view, bound_view}
use Rattle.ec_expansion_defs.specs.Programs.{embedded}

abbrev pub written_at : Typed → List Bound → ℕ → Option StmtKindData
written_at typed bounds =
    embedded (typed_view typed).handlers (typed_view typed).unit.embs (map bound_view bounds)
