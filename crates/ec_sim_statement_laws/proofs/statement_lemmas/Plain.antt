-- An expression gives a value, or the run is over; and one without a call of the library does the same under every step.
use Rattle.std.proofs.Common.{◌≡◌, ℕ, Bool, true, false, ℤ, List, [], ◌∷◌, ◌++◌, Option, Some, None, Result, Ok, Err, refl, subst, ◌⊎◌, inl, inr}
use Rattle.std.specs.Prelude.{pos, not as negation, slice_get, ◌||◌}
use Rattle.ec_base.specs.declared.stop.Trap.{Trap}
use Rattle.ec_ctypes.specs.declared.embedded.emb.Cond.{Cond}
use Rattle.ec_ctypes.specs.declared.embedded.emb.Cond.TheVariants.{NotFound, Warning, Error}
use Rattle.ec_meaning_defs.specs.functions.Functions.{Effect, answers, traps as traps_there, ends, misfit as no_call, effect_of}
use Rattle.ec_memory_defs.specs.Memory.{ValueData, number, address, moved, cells_at, load as loaded, store as stored, copy as copied, put as put_bytes}
use Rattle.ec_meaning_defs.specs.resolved.Operations.{Worked, gives, traps, misfit, is_true, truth, value_as, negated, flipped, number_worked, worked}
use Rattle.ec_meaning_defs.specs.resolved.Resolved.{Exp, object, slot, member, constant, load, whole, store, copy, put, update, convert, negate, flip, not, operate, both, either, choice, call, known, library_call, faulty, Exps, no_exps, exps, library}
use Rattle.ec_resolving_defs.specs.Storage.{ActionForm, goes_on, jumps, prints, stops, leaves, continues, calls_function, ActionForms}
use Rattle.ec_meaning_defs.specs.evaluation.State.{State}
use Rattle.ec_meaning_defs.specs.evaluation.Results.{Res, value, on, broke, continued, went, back, over, on_value, on_done, tried, changed, worked_out, at_address, on_number, present, done_there, without_answer, answered, without_value}
use Rattle.ec_meaning_defs.specs.evaluation.Evaluate.{World, Context, Step, calls, eval, collect, updated}
use Rattle.ec_direct_defs.specs.Handling.{when, acted, tested, handled}
use Rattle.ec_sim_statement_laws.specs.statement.Blocks.{has_call, have_call, calls_library, any_calls_library}

abbrev pub IsPlain : Res → Type 0
IsPlain (value v s) = Unit {0}
IsPlain (on s) = ⊥
IsPlain (broke s) = ⊥
IsPlain (continued s) = ⊥
IsPlain (went l s) = ⊥
IsPlain (back v s) = ⊥
IsPlain (over e s) = Unit {0}

behind_value : (o : Res) (k : ValueData → State → Res) → IsPlain o → ((v : ValueData) (t : State) → IsPlain (k v t)) → IsPlain (on_value o k)
behind_value (value v s) k h f = f v s
behind_value (on s) k h f = absurd h
behind_value (broke s) k h f = absurd h
behind_value (continued s) k h f = absurd h
behind_value (went l s) k h f = absurd h
behind_value (back v s) k h f = absurd h
behind_value (over e s) k h f = tt

at_address_plain : (v : ValueData) (s : State) (k : ℕ → Res) → ((p : ℕ) → IsPlain (k p)) → IsPlain (at_address v s k)
at_address_plain (address p) s k f = f p
at_address_plain (number z) s k f = tt

on_number_plain : (v : ValueData) (s : State) (k : ℤ → Res) → ((z : ℤ) → IsPlain (k z)) → IsPlain (on_number v s k)
on_number_plain (number z) s k f = f z
on_number_plain (address p) s k f = tt

tried_plain : {A : Type 0} (line : ℕ) (r : Result A Trap) (s : State) (k : A → Res) → ((a : A) → IsPlain (k a)) → IsPlain (tried line r s k)
tried_plain line (Ok a) s k f = f a
tried_plain line (Err trap) s k f = tt

worked_plain : (line : ℕ) (r : Worked) (s : State) (k : ValueData → Res) → ((v : ValueData) → IsPlain (k v)) → IsPlain (worked_out line r s k)
worked_plain line (gives v) s k f = f v
worked_plain line (traps trap) s k f = tt
worked_plain line misfit s k f = tt

present_plain : {A : Type 0} (x : Option A) (s : State) (k : A → Res) → ((a : A) → IsPlain (k a)) → IsPlain (present x s k)
present_plain (Some a) s k f = f a
present_plain None s k f = tt

test_plain : (b : Bool) (x y : Res) → IsPlain x → IsPlain y → IsPlain (elim b [ true ↦ x | false ↦ y ])
test_plain true x y p q = p
test_plain false x y p q = q

effect_plain : (line : ℕ) (effect : Effect) (s : State) → IsPlain (done_there line effect s)
effect_plain line (answers v m output errors) s = tt
effect_plain line (traps_there trap) s = tt
effect_plain line (ends status) s = tt
effect_plain line no_call s = tt

silent_plain : (o : Res) → IsPlain (without_answer o)
silent_plain (value v s) = tt
silent_plain (on s) = tt
silent_plain (broke s) = tt
silent_plain (continued s) = tt
silent_plain (went l s) = tt
silent_plain (back v s) = tt
silent_plain (over e s) = tt

unused_plain : (line : ℕ) (used : Bool) (s : State) → IsPlain (without_value line used s)
unused_plain line true s = tt
unused_plain line false s = tt

answered_plain : (line : ℕ) (used : Bool) (o : Res) → IsPlain (answered line used o)
answered_plain line used (value v s) = tt
answered_plain line used (on s) = tt
answered_plain line used (broke s) = tt
answered_plain line used (continued s) = tt
answered_plain line used (went l s) = tt
answered_plain line used (back None s) = unused_plain line used s
answered_plain line used (back (Some v) s) = tt
answered_plain line used (over e s) = tt

module _ (step : Step) (w : World) (c : Context) where
  mutual
    pub eval_plain : (e : Exp) (s : State) → IsPlain (eval step w c e s)
    eval_plain (object n) s = tt
    eval_plain (slot i) s = present_plain (slice_get c.objects i) s (λ p. value (address p) s) (λ p. tt)
    eval_plain (member offset e) s =
        behind_value (eval step w c e s) _ (eval_plain e s) (λ v t. at_address_plain v t _ (λ p.
        tried_plain c.line (moved t.memory p (pos offset) 1) t _ (λ q. tt)))
    eval_plain (constant v) s = tt
    eval_plain (load kind e) s =
        behind_value (eval step w c e s) _ (eval_plain e s) (λ v t. at_address_plain v t _ (λ p.
        tried_plain c.line (loaded t.memory p kind) t _ (λ x. tt)))
    eval_plain (whole size e) s =
        behind_value (eval step w c e s) _ (eval_plain e s) (λ v t. at_address_plain v t _ (λ p.
        tried_plain c.line (cells_at t.memory p size) t _ (λ cells. tt)))
    eval_plain (store kind e a) s =
        behind_value (eval step w c e s) _ (eval_plain e s) (λ v t. behind_value (eval step w c a t) _ (eval_plain a t) (λ x u.
        at_address_plain v u _ (λ p. tried_plain c.line (stored u.memory p kind x) u _ (λ r. tt))))
    eval_plain (copy size e a) s =
        behind_value (eval step w c e s) _ (eval_plain e s) (λ v t. behind_value (eval step w c a t) _ (eval_plain a t) (λ x u.
        at_address_plain v u _ (λ p. at_address_plain x u _ (λ q. tried_plain c.line (copied u.memory p q size) u _ (λ r. tt)))))
    eval_plain (put bytes e) s =
        behind_value (eval step w c e s) _ (eval_plain e s) (λ v t. at_address_plain v t _ (λ p.
        tried_plain c.line (put_bytes t.memory p bytes) t _ (λ u. tt)))
    eval_plain (update n e a) s =
        behind_value (eval step w c e s) _ (eval_plain e s) (λ v t. at_address_plain v t _ (λ p.
        tried_plain c.line (loaded t.memory p n.kind) t _ (λ old.
        behind_value (eval step w c a t) _ (eval_plain a t) (λ x u.
        worked_plain c.line (worked n.operation u.memory (value_as n.widened old) x) u _ (λ new.
        tried_plain c.line (stored u.memory p n.kind (value_as n.kind new)) u _ (λ r. tt))))))
    eval_plain (convert from to e) s = behind_value (eval step w c e s) _ (eval_plain e s) (λ v t. tt)
    eval_plain (negate type e) s =
        behind_value (eval step w c e s) _ (eval_plain e s) (λ v t. on_number_plain v t _ (λ z.
        worked_plain c.line (number_worked (negated type z)) t _ (λ x. tt)))
    eval_plain (flip type e) s = behind_value (eval step w c e s) _ (eval_plain e s) (λ v t. on_number_plain v t _ (λ z. tt))
    eval_plain (not e) s = behind_value (eval step w c e s) _ (eval_plain e s) (λ v t. tt)
    eval_plain (operate op a b) s =
        behind_value (eval step w c a s) _ (eval_plain a s) (λ x t. behind_value (eval step w c b t) _ (eval_plain b t) (λ y u.
        worked_plain c.line (worked op u.memory x y) u _ (λ z. tt)))
    eval_plain (both a b) s =
        behind_value (eval step w c a s) _ (eval_plain a s) (λ x t.
        test_plain (is_true x) _ _ (behind_value (eval step w c b t) _ (eval_plain b t) (λ y u. tt)) tt)
    eval_plain (either a b) s =
        behind_value (eval step w c a s) _ (eval_plain a s) (λ x t.
        test_plain (is_true x) _ _ tt (behind_value (eval step w c b t) _ (eval_plain b t) (λ y u. tt)))
    eval_plain (choice e a b) s =
        behind_value (eval step w c e s) _ (eval_plain e s) (λ x t. test_plain (is_true x) _ _ (eval_plain a t) (eval_plain b t))
    eval_plain (call f used es) s = collect_plain [] es s _ (λ vs t. answered_plain c.line used (w (calls c.line f vs) t))
    eval_plain (known f es) s = collect_plain [] es s _ (λ vs t. effect_plain c.line (effect_of f t.memory vs) t)
    eval_plain (library_call n es) s = collect_plain [] es s _ (λ vs t. silent_plain (step w c (library n vs) t))
    eval_plain faulty s = tt

    collect_plain : (vs : List ValueData) (es : Exps) (s : State) (k : List ValueData → State → Res)
        → ((xs : List ValueData) (t : State) → IsPlain (k xs t)) → IsPlain (collect step w c vs es s k)
    collect_plain vs no_exps s k f = f vs s
    collect_plain vs (exps e es) s k f = behind_value (eval step w c e s) _ (eval_plain e s) (λ v t. collect_plain (vs ++ v ∷ []) es t k f)

-- ---- two steps over two worlds

abbrev Holds : Bool → Type 0
Holds true = Unit {0}
Holds false = ⊥

abbrev Fails : Bool → Type 0
Fails true = ⊥
Fails false = Unit {0}

clash : {A : Type 0} → true ≡ false → A
clash e = absurd (subst Holds e tt)

-- nothing is asked of calls of the library
pub clash_false : {A : Type 0} → false ≡ true → A
clash_false e = absurd (subst Fails e tt)

pub left_false : (a b : Bool) → (a || b) ≡ false → a ≡ false
left_false true b e = e
left_false false b e = refl

pub right_false : (a b : Bool) → (a || b) ≡ false → b ≡ false
right_false true b e = clash e
right_false false b e = e

-- Functions do the same, and where `atoms` is true so do calls of the library
module _ (step step' : Step) (w w' : World) (c : Context)
    (functions : (line f : ℕ) (vs : List ValueData) (s : State) → w (calls line f vs) s ≡ w' (calls line f vs) s)
    (atoms : Bool) (libraries : atoms ≡ true → (n : ℕ) (vs : List ValueData) (s : State) → step w c (library n vs) s ≡ step' w' c (library n vs) s) where
  -- an expression has no call of the library, or these do the same
  abbrev pub Fine : Bool → Type 0
  Fine b = (b ≡ false) ⊎ (atoms ≡ true)

  first : (a b : Bool) → Fine (a || b) → Fine a
  first a b (inl e) = inl (left_false a b e)
  first a b (inr e) = inr e

  second : (a b : Bool) → Fine (a || b) → Fine b
  second a b (inl e) = inl (right_false a b e)
  second a b (inr e) = inr e

  mutual
    pub eval_alike : (e : Exp) → Fine (has_call e) → (s : State) → eval step w c e s ≡ eval step' w' c e s
    eval_alike (object n) h s = refl
    eval_alike (slot i) h s = refl
    eval_alike (member offset e) h s = λ j.
        on_value (eval_alike e h s j) (λ v t. at_address v t (λ p.
        tried c.line (moved t.memory p (pos offset) 1) t (λ q. value (address q) t)))
    eval_alike (constant v) h s = refl
    eval_alike (load kind e) h s = λ j.
        on_value (eval_alike e h s j) (λ v t. at_address v t (λ p.
        tried c.line (loaded t.memory p kind) t (λ x. value x t)))
    eval_alike (whole size e) h s = λ j.
        on_value (eval_alike e h s j) (λ v t. at_address v t (λ p.
        tried c.line (cells_at t.memory p size) t (λ cells. value (address p) t)))
    eval_alike (store kind e a) h s = λ j.
        on_value (eval_alike e (first (has_call e) (has_call a) h) s j) (λ v t. on_value (eval_alike a (second (has_call e) (has_call a) h) t j) (λ x u.
        at_address v u (λ p. changed c.line (stored u.memory p kind x) u (λ r. value x r))))
    eval_alike (copy size e a) h s = λ j.
        on_value (eval_alike e (first (has_call e) (has_call a) h) s j) (λ v t. on_value (eval_alike a (second (has_call e) (has_call a) h) t j) (λ x u.
        at_address v u (λ p. at_address x u (λ q. changed c.line (copied u.memory p q size) u (λ r. value (address p) r)))))
    eval_alike (put bytes e) h s = λ j.
        on_value (eval_alike e h s j) (λ v t. at_address v t (λ p.
        changed c.line (put_bytes t.memory p bytes) t (λ u. value (address p) u)))
    eval_alike (update n e a) h s = λ j.
        on_value (eval_alike e (first (has_call e) (has_call a) h) s j) (λ v t. at_address v t (λ p.
        tried c.line (loaded t.memory p n.kind) t (λ old.
        on_value (eval_alike a (second (has_call e) (has_call a) h) t j) (λ x u.
        worked_out c.line (worked n.operation u.memory (value_as n.widened old) x) u (λ new.
        updated c.line n p old new u)))))
    eval_alike (convert from to e) h s = λ j. on_value (eval_alike e h s j) (λ v t. value (value_as to v) t)
    eval_alike (negate type e) h s = λ j.
        on_value (eval_alike e h s j) (λ v t. on_number v t (λ z.
        worked_out c.line (number_worked (negated type z)) t (λ x. value x t)))
    eval_alike (flip type e) h s = λ j.
        on_value (eval_alike e h s j) (λ v t. on_number v t (λ z. value (number (flipped type z)) t))
    eval_alike (not e) h s = λ j. on_value (eval_alike e h s j) (λ v t. value (truth (negation (is_true v))) t)
    eval_alike (operate op a b) h s = λ j.
        on_value (eval_alike a (first (has_call a) (has_call b) h) s j) (λ x t. on_value (eval_alike b (second (has_call a) (has_call b) h) t j) (λ y u.
        worked_out c.line (worked op u.memory x y) u (λ z. value z u)))
    eval_alike (both a b) h s = λ j.
        on_value (eval_alike a (first (has_call a) (has_call b) h) s j) (λ x t. elim (is_true x) [
          | true ↦ on_value (eval_alike b (second (has_call a) (has_call b) h) t j) (λ y u. value (truth (is_true y)) u)
          | false ↦ value (truth false) t
        ])
    eval_alike (either a b) h s = λ j.
        on_value (eval_alike a (first (has_call a) (has_call b) h) s j) (λ x t. elim (is_true x) [
          | true ↦ value (truth true) t
          | false ↦ on_value (eval_alike b (second (has_call a) (has_call b) h) t j) (λ y u. value (truth (is_true y)) u)
        ])
    eval_alike (choice e a b) h s = λ j.
        on_value (eval_alike e (first (has_call e) (has_call a || has_call b) h) s j) (λ x t. elim (is_true x) [
          | true ↦ eval_alike a (first (has_call a) (has_call b) (second (has_call e) (has_call a || has_call b) h)) t j
          | false ↦ eval_alike b (second (has_call a) (has_call b) (second (has_call e) (has_call a || has_call b) h)) t j
        ])
    eval_alike (call f used es) h s =
        collect_alike [] es h s _ _ (λ vs t. λ j. answered c.line used (functions c.line f vs t j))
    eval_alike (known f es) h s = collect_alike [] es h s _ _ (λ vs t. refl)
    eval_alike (library_call n es) (inl h) s = clash h
    eval_alike (library_call n es) (inr h) s = collect_alike [] es (inr h) s _ _ (λ vs t. λ j. without_answer (libraries h n vs t j))
    eval_alike faulty h s = refl

    pub collect_alike : (vs : List ValueData) (es : Exps) → Fine (have_call es) → (s : State) (k k' : List ValueData → State → Res)
        → ((xs : List ValueData) (t : State) → k xs t ≡ k' xs t) → collect step w c vs es s k ≡ collect step' w' c vs es s k'
    collect_alike vs no_exps h s k k' f = f vs s
    collect_alike vs (exps e es) h s k k' f = λ j.
        on_value (eval_alike e (first (has_call e) (have_call es) h) s j) (λ v t.
        collect_alike (vs ++ v ∷ []) es (second (has_call e) (have_call es) h) t k k' f j)

  acted_alike : (a : ActionForm) → Fine (calls_library a) → (s : State) → acted step w c a s ≡ acted step' w' c a s
  acted_alike goes_on h s = refl
  acted_alike (jumps l) h s = refl
  acted_alike prints h s = refl
  acted_alike stops h s = refl
  acted_alike leaves h s = refl
  acted_alike continues h s = refl
  acted_alike (calls_function e) h s = λ j. on_value (eval_alike e h s j) (λ v t. on t)

  tested_alike : (condition : Cond) (a : ActionForm) → Fine (calls_library a) → (s : State)
      → tested step w c condition a s ≡ tested step' w' c condition a s
  tested_alike condition goes_on h s = refl
  tested_alike condition (jumps l) h s = refl
  tested_alike condition prints h s = refl
  tested_alike condition stops h s = refl
  tested_alike condition leaves h s = refl
  tested_alike condition continues h s = refl
  tested_alike condition (calls_function e) h s = λ j.
      when c.line condition s (λ holds. elim holds [ true ↦ acted_alike (calls_function e) h s j | false ↦ on s ])

  pub handled_alike : (actions : ActionForms) → Fine (any_calls_library actions) → (s : State)
      → handled step w c actions s ≡ handled step' w' c actions s
  handled_alike actions h s = λ j.
      on_done (tested_alike NotFound actions.none_found (first none_found (warning || error) h) s j) (λ s.
      on_done (tested_alike Warning actions.warning (first warning error rest) s j) (λ s.
      tested_alike Error actions.error (second warning error rest) s j))
    where
      none_found : Bool
      none_found = calls_library actions.none_found

      warning : Bool
      warning = calls_library actions.warning

      error : Bool
      error = calls_library actions.error

      rest : Fine (warning || error)
      rest = second none_found (warning || error) h
