-- Binding the statements of a program, one after the other.
use Rattle.std.proofs.Common.{◌≡◌, ◌<◌, ◌≤◌, ℕ, zero, suc, ◌+◌, List, [], ◌∷◌, ◌++◌, length, map, drop, Some, Result, Ok, Err, slice_get, refl, sym, ap, ◌∙◌, subst, append_assoc, append-nil, add-one, inl, inr, arith}
use Rattle.std.proofs.lemmas.List.{map-append}
use Rattle.std.specs.Prelude.{IfSome}
use Rattle.ec_base.specs.declared.stop.Stop.{Stop}
use Rattle.ec_base.specs.declared.stop.Stop.TheVariants.{Refused, Limit, OutOfMemory}
use Rattle.ec_ctypes.specs.declared.checked.bound.Bound.{Bound}
use Rattle.ec_ctypes.specs.trees.Checked.{BoundData, TypedData}
use Rattle.ec_ctypes.specs.trees.Embedded.{EmbData}
use Rattle.ec_ctypes.specs.views.Checked.{bound_view}
use Rattle.ec_host_defs.specs.Bound.{bound_answer}
use Rattle.ec_params.specs.Answers.{Told}
use Rattle.ec_phases_defs.specs.Sources.{with_bound, bound_from}
use Rattle.ec_front.specs.source.Answers.{Tells}
use Rattle.ec_front.specs.translation.Bounds.{IsBoundAs, IsNext, AddsBound}

abbrev Answer : Type 0
Answer = Result (List BoundData) Stop

abbrev pub before : List BoundData → Answer → Answer
before bs (Ok cs) = Ok (bs ++ cs)
before bs (Err stop) = Err stop

before_none : (a : Answer) → before [] a ≡ a
before_none (Ok cs) = refl
before_none (Err stop) = refl

before_one : (bs : List BoundData) (b : BoundData) (a : Answer) → before bs (with_bound (Ok b) a) ≡ before (bs ++ b ∷ []) a
before_one bs b (Ok cs) = ap (λ ds. Ok ds) (sym (append_assoc bs (b ∷ []) cs))
before_one bs b (Err stop) = refl

first_left : (es : List EmbData) (n : ℕ) (e : EmbData) → slice_get es n ≡ Some e → drop n es ≡ e ∷ drop (n + 1) es
first_left [] n e h = absurd (cc (h))
first_left (x ∷ es) zero e h = let same : x ≡ e = cc in ap (λ y. y ∷ es) same
first_left (x ∷ es) (suc n) e h = let s : suc n + 1 ≡ suc (n + 1) = omega arith in first_left es n e h ∙ ap (λ k. e ∷ drop k (x ∷ es)) (sym s)

-- So far these are bound; the statements from this number on are left.
pub record IsBinding (t : TypedData) (number : ℕ) (bounds : List Bound) : Type 0 where
  pub is : bound_from t 0 t.unit.embs ≡ before (map bound_view bounds) (bound_from t number (drop number t.unit.embs))

pub at_start : (t : TypedData) → IsBinding t 0 []
at_start t = record { is = sym (before_none (bound_from t 0 t.unit.embs)) }

left_with : (t : TypedData) (n : ℕ) (e : EmbData) → slice_get t.unit.embs n ≡ Some e
    → bound_from t n (drop n t.unit.embs) ≡ with_bound (bound_answer t n e) (bound_from t (suc n) (drop (n + 1) t.unit.embs))
left_with t n e h = ap (λ es. bound_from t n es) (first_left t.unit.embs n e h)

pub kept : (t : TypedData) (n : ℕ) (old new : List Bound) → IsBinding t n old → IsNext t n old new → IsBinding t (n + 1) new
kept t n old new b next =
    let rest = bound_from t (suc n) (drop (n + 1) t.unit.embs) in
    let e = next.is.statement in
    record {
      is = b.is ∙ ap (before (map bound_view old)) (left_with t n e next.is.at ∙ ap (λ a. with_bound a rest) next.is.is)
          ∙ before_one (map bound_view old) (bound_view next.bound) rest
          ∙ ap (λ bs. before bs rest) (sym (map-append bound_view old (next.bound ∷ [])) ∙ ap (map bound_view) (sym next.behind))
          ∙ ap (λ k. before (map bound_view new) (bound_from t k (drop (n + 1) t.unit.embs))) (sym (add-one n));
    }

stopped : (t : TypedData) (n : ℕ) (bounds : List Bound) (stop : Stop) → IsBinding t n bounds → IsBoundAs t n (Err stop) → bound_from t 0 t.unit.embs ≡ Err stop
stopped t n bounds stop b at =
    let rest = bound_from t (suc n) (drop (n + 1) t.unit.embs) in
    b.is ∙ ap (before (map bound_view bounds)) (left_with t n at.statement at.at ∙ ap (λ a. with_bound a rest) at.is)

pub stops : (t : TypedData) (n : ℕ) (old new : List Bound) (stop : Stop) → IsBinding t n old → AddsBound t n old new (Err stop) → Tells {A = List Bound} (map bound_view) (λ told. told ≡ bound_from t 0 t.unit.embs) (Err stop)
stops t n old new (Refused kind line) b h = sym (stopped t n old (Refused kind line) b h)
stops t n old new (Limit limit) b h = sym (stopped t n old (Limit limit) b h)
stops t n old new OutOfMemory b h = tt

none_left : (es : List EmbData) (n : ℕ) → length es ≤ n → drop n es ≡ []
none_left [] zero h = refl
none_left [] (suc n) h = refl
none_left (e ∷ es) zero h = absurd (omega (arith, h))
none_left (e ∷ es) (suc n) h = none_left es n (omega (arith, h))

pub at_end : (t : TypedData) (n : ℕ) (bounds : List Bound) → length t.unit.embs ≤ n → IsBinding t n bounds → Ok (map bound_view bounds) ≡ bound_from t 0 t.unit.embs
at_end t n bounds h b =
    sym (b.is ∙ ap (λ es. before (map bound_view bounds) (bound_from t n es)) (none_left t.unit.embs n h) ∙ ap (λ bs. Ok bs) (append-nil (map bound_view bounds)))

-- ---- one statement

some_at : (es : List EmbData) (n : ℕ) → n < length es → (e : EmbData) × (slice_get es n ≡ Some e)
some_at [] n h = absurd (omega (arith, h))
some_at (x ∷ es) zero h = (x, refl)
some_at (x ∷ es) (suc n) h = some_at es n (omega (arith, h))

-- what is told of the statement at this number
abbrev pub IsTold : TypedData → ℕ → Result Bound Stop → Type 0
IsTold t n result = IfSome (slice_get t.unit.embs n) (λ e. Told bound_view result (bound_answer t n e))

told_at : (t : TypedData) (n : ℕ) (result : Result Bound Stop) → n < length t.unit.embs → IsTold t n result → (e : EmbData) × (slice_get t.unit.embs n ≡ Some e) × Told bound_view result (bound_answer t n e)
told_at t n result h told = let s = some_at t.unit.embs n h in (s.0, s.1, subst (λ o. IfSome o (λ e. Told bound_view result (bound_answer t n e))) s.1 told)

pub bound_told : (t : TypedData) (n : ℕ) (b : Bound) → n < length t.unit.embs → IsTold t n (Ok b) → IsBoundAs t n (Ok (bound_view b))
bound_told t n b h told = let s = told_at t n (Ok b) h told in record { statement = s.0; at = s.1; is = s.2 }

pub stop_told : (t : TypedData) (n : ℕ) (old new : List Bound) (stop : Stop) → n < length t.unit.embs → IsTold t n (Err stop) → AddsBound t n old new (Err stop)
stop_told t n old new stop h told = let s = told_at t n (Err stop) h told in go stop s.0 s.1 s.2
  where
    go : (stop : Stop) (e : EmbData) → slice_get t.unit.embs n ≡ Some e → Told {A = Bound} bound_view (Err stop) (bound_answer t n e) → AddsBound t n old new (Err stop)
    go (Refused kind line) e at (inl none) = absurd (cc (none))
    go (Refused kind line) e at (inr is) = record { statement = e; at = at; is = is }
    go (Limit limit) e at (inl none) = absurd (cc (none))
    go (Limit limit) e at (inr is) = record { statement = e; at = at; is = is }
    go OutOfMemory e at is = tt
