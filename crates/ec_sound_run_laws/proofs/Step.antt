-- The step of written C serves: no call of the library is stuck whose list is a call and whose pointers give addresses.
use Rattle.std.proofs.Common.{◌≡◌, ◌∙◌, ℕ, zero, suc, List, [], ◌∷◌, length, Option, Some, None, true, refl, sym, ap, subst}
use Rattle.std.specs.Prelude.{slice_get, replicate, is_some}
use Rattle.ec_arguments.specs.Arguments.{Arg, symbol, literal, null, int_constant, long_constant, pointer, stray, Cut}
use Rattle.ec_arguments.specs.Rules.{cut}
use Rattle.ec_ctypes.specs.declared.checked.library.LibName.{LibName}
use Rattle.ec_meaning_defs.specs.resolved.Resolved.{Exp}
use Rattle.ec_memory_defs.specs.Memory.{ValueData, number, address}
use Rattle.ec_meaning_defs.specs.evaluation.State.{State}
use Rattle.ec_meaning_defs.specs.evaluation.Results.{Res, over, at_address, turn}
use Rattle.ec_meaning_defs.specs.evaluation.Evaluate.{World, Context, eval}
use Rattle.ec_call_defs.specs.Library.{leads, library_call}
use Rattle.ec_call_defs.specs.Outcomes as outcome
use Rattle.ec_call_defs.specs.Outcomes.{Outcome}
use Rattle.ec_call_defs.specs.Steps.{ending_of, settled, arguments_given, called, called_of, no_step, given_first, call_given, library_step}
use Rattle.ec_sound_defs.specs.Sorts.{address_sort, OfSorts}
use Rattle.ec_sound_defs.specs.Sound.{Signature, no_atoms}
use Rattle.ec_sound_defs.specs.Outcomes.{Goes, CallsAnswer, LibrariesGo, Serves}
use Rattle.ec_sound_run_laws.proofs.Going.{value_in, address_in, turn_in, goes_over, eval_in}
use Rattle.ec_sound_defs.specs.Written.{shape, any, IsCall, Serve, CallServes, library_atoms}
use Rattle.ec_sound_run_laws.proofs.Calls.{SafeHalt, IsSafe, Ruled, if_cut_safe}
use Rattle.ec_sound_defs.proofs.Shapes.{Keeps, cut_by}

halt_over : (line : ℕ) (halt : outcome.Halt) → SafeHalt halt → (s : State) → Goes (over (ending_of line halt) s)
halt_over line (outcome.trapped trap) h s = tt
halt_over line (outcome.waiting slot request) h s = tt
halt_over line outcome.stuck h s = absurd h

settled_goes : {A : Type 0} (line : ℕ) (o : Outcome A) → IsSafe o → Goes (settled line o)
settled_goes line (outcome.gives a s) h = tt
settled_goes line (outcome.finished s) h = tt
settled_goes line (outcome.over halt s) h = halt_over line halt h s

ruled_as : (o : Option (Cut ℕ)) → Keeps o → Ruled o
ruled_as None h = h
ruled_as (Some c) h = h

call_goes : (line : ℕ) (name : LibName) (given : List (Arg ℕ)) → IsCall name given → (s : State) → Goes (turn s (λ u. settled line (library_call name given u)))
call_goes line name given h s =
    turn_in Goes goes_over s (λ u. settled line (library_call name given u)) (λ u.
    settled_goes line (library_call name given u) ((if_cut_safe (cut leads name given) (ruled_as (cut any name given) (cut_by name given h))).is u))

module _ (signatures : List Signature) (w : World) (answer : CallsAnswer signatures w) where
  none_go : LibrariesGo no_atoms no_step w
  none_go c n m h vs g s = absurd h

  given_goes : (c : Context) (args : List (Arg Exp)) → Serve signatures (length c.objects) zero args → (s : State) (go : List (Arg ℕ) → State → Res) → ((given : List (Arg ℕ)) (t : State) → shape given ≡ shape args → Goes (go given t)) → Goes (arguments_given no_step w c args s go)
  given_goes c [] h s go f = f [] s refl
  given_goes c (symbol x ∷ args) h s go f =
      given_goes c args h s (λ given t. go (symbol x ∷ given) t) (λ given t e. f (symbol x ∷ given) t (ap (λ xs. symbol x ∷ xs) e))
  given_goes c (literal bytes ∷ args) h s go f =
      given_goes c args h s (λ given t. go (literal bytes ∷ given) t) (λ given t e. f (literal bytes ∷ given) t (ap (λ xs. literal bytes ∷ xs) e))
  given_goes c (null ∷ args) h s go f =
      given_goes c args h s (λ given t. go (null ∷ given) t) (λ given t e. f (null ∷ given) t (ap (λ xs. null ∷ xs) e))
  given_goes c (int_constant n ∷ args) h s go f =
      given_goes c args h s (λ given t. go (int_constant n ∷ given) t) (λ given t e. f (int_constant n ∷ given) t (ap (λ xs. int_constant n ∷ xs) e))
  given_goes c (long_constant n ∷ args) h s go f =
      given_goes c args h s (λ given t. go (long_constant n ∷ given) t) (λ given t e. f (long_constant n ∷ given) t (ap (λ xs. long_constant n ∷ xs) e))
  given_goes c (pointer x ∷ args) h s go f =
      value_in Goes goes_over address_sort (eval no_step w c x s) (eval_in signatures no_atoms no_step w answer none_go c address_sort x h.0 s)
      (λ v t. at_address v t (λ p. arguments_given no_step w c args t (λ given u. go (pointer p ∷ given) u))) (λ v t g.
      address_in Goes goes_over v g t (λ p. arguments_given no_step w c args t (λ given u. go (pointer p ∷ given) u)) (λ p.
      given_goes c args h.1 t (λ given u. go (pointer p ∷ given) u) (λ given u e. f (pointer p ∷ given) u (ap (λ xs. pointer tt ∷ xs) e))))
  given_goes c (stray ∷ args) h s go f = absurd h

  -- pointers that are evaluated before the call
  first_serve : (n m : ℕ) (vs : List ValueData) → OfSorts (replicate m address_sort) vs → (args : List (Arg Exp)) → Serve signatures n m args → Serve signatures n zero (given_first vs args)
  first_serve n zero [] g args h = h
  first_serve n zero (v ∷ vs) g args h = absurd g
  first_serve n (suc m) [] g args h = absurd g
  first_serve n (suc m) (v ∷ vs) g [] h = tt
  first_serve n (suc m) (v ∷ vs) g (symbol x ∷ args) h = first_serve n (suc m) (v ∷ vs) g args h
  first_serve n (suc m) (v ∷ vs) g (literal bytes ∷ args) h = first_serve n (suc m) (v ∷ vs) g args h
  first_serve n (suc m) (v ∷ vs) g (null ∷ args) h = first_serve n (suc m) (v ∷ vs) g args h
  first_serve n (suc m) (v ∷ vs) g (int_constant z ∷ args) h = first_serve n (suc m) (v ∷ vs) g args h
  first_serve n (suc m) (v ∷ vs) g (long_constant z ∷ args) h = first_serve n (suc m) (v ∷ vs) g args h
  first_serve n (suc m) (number z ∷ vs) g (pointer x ∷ args) h = absurd g.0
  first_serve n (suc m) (address p ∷ vs) g (pointer x ∷ args) h = (tt, first_serve n m vs g.1 args h)
  first_serve n (suc m) (v ∷ vs) g (stray ∷ args) h = absurd h

  first_shape : (vs : List ValueData) (args : List (Arg Exp)) → shape (given_first vs args) ≡ shape args
  first_shape [] args = refl
  first_shape (v ∷ vs) [] = refl
  first_shape (v ∷ vs) (symbol x ∷ args) = ap (λ xs. symbol x ∷ xs) (first_shape (v ∷ vs) args)
  first_shape (v ∷ vs) (literal bytes ∷ args) = ap (λ xs. literal bytes ∷ xs) (first_shape (v ∷ vs) args)
  first_shape (v ∷ vs) (null ∷ args) = ap (λ xs. null ∷ xs) (first_shape (v ∷ vs) args)
  first_shape (v ∷ vs) (int_constant z ∷ args) = ap (λ xs. int_constant z ∷ xs) (first_shape (v ∷ vs) args)
  first_shape (v ∷ vs) (long_constant z ∷ args) = ap (λ xs. long_constant z ∷ xs) (first_shape (v ∷ vs) args)
  first_shape (v ∷ vs) (pointer x ∷ args) = ap (λ xs. pointer tt ∷ xs) (first_shape vs args)
  first_shape (v ∷ vs) (stray ∷ args) = ap (λ xs. stray ∷ xs) (first_shape (v ∷ vs) args)

  called_goes : (c : Context) (name : LibName) (args written : List (Arg Exp)) → shape args ≡ shape written → IsCall name written → Serve signatures (length c.objects) zero args → (s : State) → Goes (called no_step w c name args s)
  called_goes c name args written e h g s =
      given_goes c args g s (λ given t. turn t (λ u. settled c.line (library_call name given u))) (λ given t f.
      call_goes c.line name given (subst (λ xs. is_some (cut any name xs) ≡ true) (sym (f ∙ e)) h) t)

  called_of_goes : (c : Context) (m : ℕ) (vs : List ValueData) → OfSorts (replicate m address_sort) vs → (call : Option (LibName × List (Arg Exp))) → CallServes signatures (length c.objects) m call → (s : State) → Goes (called_of no_step w c (call_given vs call) s)
  called_of_goes c m vs g None h s = absurd h
  called_of_goes c zero [] g (Some call) h s = called_goes c call.0 call.1 call.1 refl h.0 h.1 s
  called_of_goes c (suc m) [] g (Some call) h s = absurd g
  called_of_goes c m (v ∷ vs) g (Some call) h s =
      called_goes c call.0 (given_first (v ∷ vs) call.1) call.1 (first_shape (v ∷ vs) call.1) h.0 (first_serve (length c.objects) m (v ∷ vs) g call.1 h.1) s

pub library_serves : (signatures : List Signature) (calls : List (LibName × List (Arg Exp))) → Serves signatures (library_atoms signatures calls) (library_step calls)
library_serves signatures calls = record {
  embeds = λ w sound a c st n h s. absurd h;
  libraries = λ w sound c n m h vs g s. called_of_goes signatures w sound.called c m vs g (slice_get calls n) h s;
}
