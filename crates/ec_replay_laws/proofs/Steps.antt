-- The step that makes the calls of a program takes answers exactly where its calls do.
use Rattle.std.proofs.Common.{◌≡◌, ℕ, List, [], ◌∷◌, Option, Some, None, refl, subst}
use Rattle.std.specs.Prelude.{slice_get}
use Rattle.ec_arguments.specs.Arguments.{Arg, symbol, literal, null, int_constant, long_constant, pointer, stray}
use Rattle.ec_ctypes.specs.declared.checked.library.LibName.{LibName}
use Rattle.ec_meaning_defs.specs.resolved.Resolved.{Exp}
use Rattle.ec_memory_defs.specs.Memory.{ValueData, number, address}
use Rattle.ec_meaning_defs.specs.evaluation.State.{Answer, State, stuck}
use Rattle.ec_meaning_defs.specs.evaluation.Results.{Res, value, on, broke, continued, went, back, over, on_value, at_address, turn}
use Rattle.ec_meaning_defs.specs.evaluation.Evaluate.{World, Context}
use Rattle.ec_meaning_defs.specs.evaluation.Expanded.{itself}
use Rattle.ec_meaning_defs.specs.evaluation.Agree.{Same, same_value, same_on, same_broke, same_continued, same_went, same_back, same_over, stops_first, Endings, Kept, Alike, Related, Agree, state_of}
use Rattle.ec_meaning_defs.proofs.evaluation_lemmas.Induction.{over_good, turn_good, eval_good}
use Rattle.ec_call_defs.specs.Growth.{state_of as outcome_state}
use Rattle.ec_call_defs.specs.Library.{library_call}
use Rattle.ec_call_defs.specs.Outcomes as outcome
use Rattle.ec_call_defs.specs.Outcomes.{Outcome}
use Rattle.ec_call_defs.specs.Steps.{ending_of, settled, arguments_given, call_given, called_of, no_step, library_step}
use Rattle.ec_replay_laws.proofs.Calls.{KeptByCalls, SameOutcome, same_gives, same_finished, same_halts, halts_first, DoesSame, library_call_does}

module _ (P : State → Type 0) (E : Endings) (G : State → State → Type 0) (d : ℕ) (more : List Answer) (kept : Kept P E G d more) (by_calls : KeptByCalls P E G d more) where
  abbrev Like : Res → Res → Type 0
  Like = Same P E G d more

  abbrev Good : (State → Res) → (State → Res) → Type 0
  Good = Alike P E G d more

  -- ---- behind a call the program goes on

  settled_state : {A : Type 0} (here : ℕ) (o : Outcome A) → outcome_state o ≡ state_of (settled here o)
  settled_state here (outcome.gives a s) = refl
  settled_state here (outcome.finished s) = refl
  settled_state here (outcome.over halt s) = refl

  settled_same : {A : Type 0} (here : ℕ) {o o' : Outcome A} → SameOutcome P E d more here A o o' → Like (settled here o) (settled here o')
  settled_same here (same_gives p) = same_on p
  settled_same here (same_finished p) = same_on p
  settled_same here (same_halts b p) = same_over b p
  settled_same here (halts_first {halt = halt} {s = s} {o = o} p e) =
      stops_first p (subst (λ t. E.first (ending_of here halt) s t) (settled_state here o) e)

  settled_good : {A : Type 0} (here : ℕ) {m : State → Outcome A} → DoesSame P E G d more here A m → Good (λ s. settled here (m s)) (λ s. settled here (m s))
  settled_good here {m} h = record {
    same = λ s s' p. settled_same here (h.same s s' p);
    later = λ u. subst (G u) (settled_state here (m u)) (h.later u);
  }

  -- ---- arguments

  value_later : (o : Res) (k : ValueData → State → Res) → ((v : ValueData) (u : State) → G u (state_of (k v u))) → G (state_of o) (state_of (on_value o k))
  value_later (value v s) k g = g v s
  value_later (on s) k g = kept.same_later s
  value_later (broke s) k g = kept.same_later s
  value_later (continued s) k g = kept.same_later s
  value_later (went l s) k g = kept.same_later s
  value_later (back v s) k g = kept.same_later s
  value_later (over e s) k g = kept.same_later s

  value_same : {o o' : Res} {k k' : ValueData → State → Res} → Like o o' → ((v : ValueData) → Good (k v) (k' v)) → Like (on_value o k) (on_value o' k')
  value_same (same_value {v = v} {s = s} {s' = s'} p) h = (h v).same s s' p
  value_same (same_on p) h = same_on p
  value_same (same_broke p) h = same_broke p
  value_same (same_continued p) h = same_continued p
  value_same (same_went p) h = same_went p
  value_same (same_back p) h = same_back p
  value_same (same_over b p) h = same_over b p
  value_same {k' = k'} (stops_first {e = a} {s = s} {o = o} p e) h =
      stops_first p (kept.first_later a s (state_of o) (state_of (on_value o k')) e (value_later o k' (λ v u. (h v).later u)))

  value_then : {m m' : State → Res} {k k' : ValueData → State → Res} → Good m m' → ((v : ValueData) → Good (k v) (k' v)) → Good (λ s. on_value (m s) k) (λ s. on_value (m' s) k')
  value_then {m' = m'} {k' = k'} a h = record {
    same = λ s s' p. value_same (a.same s s' p) h;
    later = λ u. kept.later_still u (state_of (m' u)) (state_of (on_value (m' u) k')) (a.later u) (value_later (m' u) k' (λ v t. (h v).later t));
  }

  stuck_good : Good (λ s. over stuck s) (λ s. over stuck s)
  stuck_good = over_good P E G d more kept stuck tt

  address_good : (v : ValueData) {k k' : ℕ → State → Res} → ((a : ℕ) → Good (k a) (k' a)) → Good (λ t. at_address v t (λ a. k a t)) (λ t. at_address v t (λ a. k' a t))
  address_good (address a) h = h a
  address_good (number z) h = stuck_good

  no_step_agrees : Agree P E G d more no_step no_step itself
  no_step_agrees = record {
    no_label = λ l n. refl;
    embeds = λ w w' r c n. stuck_good;
    libraries = λ w w' r c n vs. stuck_good;
  }

  module _ (w w' : World) (related : Related P E G d more itself w w') (c : Context) where
    arguments_good : (args : List (Arg Exp)) {k k' : List (Arg ℕ) → State → Res} → ((given : List (Arg ℕ)) → Good (k given) (k' given))
        → Good (λ s. arguments_given no_step w c args s k) (λ s. arguments_given no_step w' c args s k')
    arguments_good [] h = h []
    arguments_good (symbol x ∷ args) h = arguments_good args (λ given. h (symbol x ∷ given))
    arguments_good (literal bytes ∷ args) h = arguments_good args (λ given. h (literal bytes ∷ given))
    arguments_good (null ∷ args) h = arguments_good args (λ given. h (null ∷ given))
    arguments_good (int_constant n ∷ args) h = arguments_good args (λ given. h (int_constant n ∷ given))
    arguments_good (long_constant n ∷ args) h = arguments_good args (λ given. h (long_constant n ∷ given))
    arguments_good (pointer e ∷ args) h =
        value_then (eval_good P E G d more kept no_step no_step itself no_step_agrees w w' related c e) (λ v. address_good v (λ p. arguments_good args (λ given. h (pointer p ∷ given))))
    arguments_good (stray ∷ args) h = stuck_good

    call_good : (name : LibName) (given : List (Arg ℕ)) → Good (λ s. turn s (λ u. settled c.line (library_call name given u))) (λ s. turn s (λ u. settled c.line (library_call name given u)))
    call_good name given = turn_good P E G d more kept (settled_good c.line (library_call_does P E G d more kept by_calls c.line name given))

    called_good : (x : Option (LibName × List (Arg Exp))) → Good (λ s. called_of no_step w c x s) (λ s. called_of no_step w' c x s)
    called_good None = stuck_good
    called_good (Some call) = arguments_good call.1 (λ given. call_good call.0 given)

  pub library_agrees : (calls : List (LibName × List (Arg Exp))) → Agree P E G d more (library_step calls) (library_step calls) itself
  library_agrees calls = record {
    no_label = λ l n. refl;
    embeds = λ w w' r c n. stuck_good;
    libraries = λ w w' r c n vs. called_good w w' r c (call_given vs (slice_get calls n));
  }
