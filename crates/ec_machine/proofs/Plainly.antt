-- Expressions without calls, evaluated on the spot: the machine goes on with the value, or stops.
use Rattle.std.proofs.Common.{◌≡◌, ◌∙◌, sym, ap, subst, ℕ, List, Bool, Result, Ok, Err}
use Rattle.std.specs.Prelude.{reverse}
use Rattle.ec_bytes.specs.declared.scalar.address.Ptr.{Ptr}
use Rattle.ec_code.specs.declared.expression.Plain.{Plain}
use Rattle.ec_code.specs.declared.program.Function.{Function}
use Rattle.ec_code.specs.Views.{plain_view}
use Rattle.ec_meaning_defs.specs.evaluation.Evaluate.{World, Step as Knowing, eval}
use Rattle.ec_meaning_defs.specs.evaluation.Results.{Res, over, value}
use Rattle.ec_meaning_defs.specs.evaluation.State.{Ending, State}
use Rattle.ec_memory_defs.specs.Memory.{Memory}
use Rattle.ec_plain.specs.Answered.{at as over_memory, answered, context, ending_of}
use Rattle.ec_values.specs.Words.{word_view}
use Rattle.ec_values.specs.declared.word.Stop.{Stop as NoValue}
use Rattle.ec_values.specs.declared.word.Word.{Word}
use Rattle.ec_machine.specs.declared.frame.Focus.{Focus}
use Rattle.ec_machine.specs.declared.machine.Machine.{Machine}
use Rattle.ec_machine.specs.declared.stop.Stop.{Stop}
use Rattle.ec_machine.specs.Frames.{Env, here, objects_of, resume}
use Rattle.ec_machine.specs.Goes.{Goes, IsOver, Stands, at, env_of, tasks}
use Rattle.ec_machine.proofs.Moves.{over_stops}

-- `f` is what waits for the value
module _ (fs : List Function) (m : Machine) (st : Memory) (new : Machine) (e : Env) (p : Plain) (xs : List Ptr) (r : Result Word NoValue) (f : Knowing → World → Res → Res)
    (scoped : xs ≡ objects_of m.scope)
    (gives : (knowing : Knowing) (w : World) (line : ℕ) (first : Bool) (s : State) → eval knowing w (context line xs first) (plain_view p) (over_memory s m.store) ≡ answered line r (over_memory s st)) where
  there : (knowing : Knowing) (w : World) (s : State) → eval knowing w (here (env_of m) m.line) (plain_view p) (at s m) ≡ answered m.line.0 r (at s (record m { store = st }))
  there knowing w s = ap (λ xs. eval knowing w (context m.line.0 xs m.first) (plain_view p) (at s m)) (sym scoped) ∙ gives knowing w m.line.0 m.first (at s m)

  pub evaluated : (v : Word) (x : Result Focus Stop) → r ≡ Ok v → Goes fs (record m { store = st }) e (λ knowing w t. f knowing w (value (word_view v) t)) x new → Goes fs m e (λ knowing w t. f knowing w (eval knowing w (here (env_of m) m.line) (plain_view p) t)) x new
  evaluated v x i g = λ knowing fits k s l.
      let w = tasks knowing fs k in
      subst (λ o. Stands knowing w s new x (resume knowing w e (reverse m.frames) (f knowing w o)))
      (sym (there knowing w s ∙ ap (λ r. answered m.line.0 r (at s (record m { store = st }))) i))
      (g knowing fits k s l)

  pub unevaluated : (why : NoValue) (x : Stop) → r ≡ Err why → IsOver x (ending_of m.line.0 why) → ((knowing : Knowing) (w : World) (y : Ending) (t : State) → f knowing w (over y t) ≡ over y t) → Goes fs m e (λ knowing w t. f knowing w (eval knowing w (here (env_of m) m.line) (plain_view p) t)) (Err x) (record m { store = st })
  unevaluated why x i j h = λ knowing fits k s l.
      let w = tasks knowing fs k in
      over_stops knowing w e (reverse m.frames) (at s (record m { store = st })) x (ending_of m.line.0 why) (f knowing w (eval knowing w (here (env_of m) m.line) (plain_view p) (at s m))) j
      (ap (f knowing w) (there knowing w s ∙ ap (λ r. answered m.line.0 r (at s (record m { store = st }))) i) ∙ h knowing w (ending_of m.line.0 why) (at s (record m { store = st })))
