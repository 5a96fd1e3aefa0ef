-- What stands in the parentheses of `for`.
use Rattle.std.specs.Prelude.{Option}
use Rattle.ec_ctypes.specs.trees.Exprs.{ExprData}
use Rattle.ec_meaning_defs.specs.resolved.Resolved.{Exp}
use Rattle.ec_resolving_defs.specs.Statements.{optional, optional_condition}
use Rattle.ec_resolving_defs.specs.Storage.{Resolving, ◌>>=◌, pure}
use Rattle.ec_typing_defs.specs.Worlds.{Place}
use Rattle.ec_resolve_statements.specs.declared.simple.ForForms.{ForForms}
use Rattle.ec_resolve_parts.specs.Made.{optional_view}

-- the first part, the condition, and what is evaluated behind each body
abbrev pub Parts : Type 0
Parts = Option Exp × (Option Exp × Option Exp)

abbrev pub for_parts : Place → Option ExprData → Option ExprData → Option ExprData
    → Resolving Parts
for_parts at x y z = do
  first ← optional at x
  test ← optional_condition at y
  behind ← optional at z
  pure (first, (test, behind))

abbrev pub for_forms_view : ForForms → Parts
for_forms_view f = (optional_view f.first, (optional_view f.test, optional_view f.behind))
