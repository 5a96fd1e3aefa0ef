-- Where a label or a case is found among statements.
use Rattle.std.specs.Prelude.{◌≡◌, List, Option, Some, None}
use Rattle.ec_code.specs.declared.statement.Statement.{Statement}
use Rattle.ec_code.specs.Views.{statement_view, statements_view}
use Rattle.ec_meaning_defs.specs.evaluation.Evaluate.{Context, World, Step as Knowing}
use Rattle.ec_meaning_defs.specs.evaluation.Execute.{run_all, look, look_all}
use Rattle.ec_meaning_defs.specs.evaluation.Results.{on, on_done}
use Rattle.ec_meaning_defs.specs.evaluation.State.{State}
use Rattle.ec_meaning_defs.specs.resolved.Resolved.{Mark}
use Rattle.ec_machine.specs.declared.labels.Standing.{Standing}

-- what is done from a label on, among statements: nothing where none holds it
abbrev pub IsStanding : Mark → List Statement → Option Standing → Type 0
IsStanding l xs (Some x) =
    (knowing : Knowing) (w : World) (c : Context) (t : State) →
    look_all knowing w l c (statements_view xs) t
    ≡ on_done (look knowing w l c (statement_view x.first.now) t)
    (λ u. run_all knowing w c (statements_view x.rest.now) u)
IsStanding l xs None =
    (knowing : Knowing) (w : World) (c : Context) (t : State)
    → look_all knowing w l c (statements_view xs) t ≡ on t
