-- Turns that are taken.
use Rattle.std.proofs.Common.{◌≡◌, ◌∙◌, sym, ap, subst, ℕ, ◌<◌, List, map, true, false}
use Rattle.ec_code.specs.declared.program.Function.{Function}
use Rattle.ec_code.specs.declared.statement.Statement.{Statement}
use Rattle.ec_code.specs.Views.{function_view, statements_view}
use Rattle.ec_meaning_defs.specs.evaluation.Evaluate.{Context, Task, World, Step as Knowing, look_for}
use Rattle.ec_meaning_defs.specs.evaluation.Execute.{act, started, settle, look_all}
use Rattle.ec_meaning_defs.specs.evaluation.Results.{Res, went}
use Rattle.ec_meaning_defs.specs.evaluation.State.{State}
use Rattle.ec_meaning_defs.specs.resolved.Labels.{holds_any}
use Rattle.ec_meaning_defs.specs.resolved.Resolved.{named}
use Rattle.ec_machine.specs.declared.machine.Machine.{Machine}
use Rattle.ec_machine.specs.declared.stop.Stop.{Stop}
use Rattle.ec_machine.specs.Goes.{Fits, Stops, at, tasks}
use Rattle.ec_machine.proofs.Fuel.{task_on}

-- a task of a machine that has fewer turns
pub begins : (knowing : Knowing) (fits : Fits knowing) (fs : List Function) (k : ℕ) (s : State) (m : Machine) (t : Task) → m.turns < k → tasks knowing fs k t (at s m) ≡ started t (at s m) (λ u. act knowing (map function_view fs) (tasks knowing fs k) t u)
begins knowing fits fs k s m t l = task_on knowing fits.counts (map function_view fs) k t (at s m) l

pub stops_by : (x : Stop) (s : State) (o o' : Res) → o ≡ o' → Stops x s o' → Stops x s o
stops_by x s o o' p h = subst (Stops x s) (sym p) h

-- a block that holds the label answers
pub found : (knowing : Knowing) (fits : Fits knowing) (fs : List Function) (k : ℕ) (s : State) (m : Machine) (c : Context) (l : ℕ) (b : List Statement) → m.turns < k → holds_any (named l) (statements_view b) ≡ true → settle (tasks knowing fs k) c (statements_view b) (went l (at s m)) ≡ settle (tasks knowing fs k) c (statements_view b) (look_all knowing (tasks knowing fs k) (named l) c (statements_view b) (at s m))
found knowing fits fs k s m c l b h e = ap (λ t. elim t [ true ↦ tasks knowing fs k (look_for c l (statements_view b)) (at s m) | false ↦ went l (at s m) ]) e ∙ begins knowing fits fs k s m (look_for c l (statements_view b)) h

pub passed : (w : World) (c : Context) (l : ℕ) (b : List Statement) (s : State) → holds_any (named l) (statements_view b) ≡ false → settle w c (statements_view b) (went l s) ≡ went l s
passed w c l b s e = ap (λ t. elim t [ true ↦ w (look_for c l (statements_view b)) s | false ↦ went l s ]) e
