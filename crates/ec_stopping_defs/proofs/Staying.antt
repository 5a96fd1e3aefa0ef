-- Places in a log that grows.
use Rattle.std.proofs.Common.{◌≡◌, ◌∙◌, ℕ, zero, suc, ◌<◌, ◌+◌, List, [], ◌∷◌, ◌++◌, length, Option, Some, None, refl, sym, ap, subst, arith}
use Rattle.std.specs.Prelude.{slice_get}
use Rattle.ec_link.specs.declared.logged.Logged.{Logged}
use Rattle.ec_meaning_defs.specs.observed.Observed.{answers_in}
use Rattle.ec_stopping_defs.specs.Places.{AllWithin, at_places, with_found}

wider : (n m : ℕ) (places : List ℕ) → AllWithin n places → AllWithin (n + m) places
wider n m [] h = tt
wider n m (i ∷ places) h = (omega (arith, h.0), wider n m places h.1)

within_both : (n : ℕ) (places more : List ℕ) → AllWithin n places → AllWithin n more → AllWithin n (places ++ more)
within_both n [] more a b = b
within_both n (i ∷ places) more a b = (a.0, within_both n places more a.1 b)

module _ {A : Type 0} where
  longer : (xs ys : List A) → length (xs ++ ys) ≡ length xs + length ys
  longer [] ys = omega arith
  longer (x ∷ xs) ys = let e = longer xs ys in omega (arith, e)

  -- what stands in a list stands there
  get_stays : (xs ys : List A) (i : ℕ) → i < length xs → slice_get (xs ++ ys) i ≡ slice_get xs i
  get_stays [] ys i h = absurd (omega (arith, h))
  get_stays (x ∷ xs) ys zero h = refl
  get_stays (x ∷ xs) ys (suc i) h = get_stays xs ys i (omega (arith, h))

  -- behind a list stands the next one
  get_next : (xs : List A) (y : A) → slice_get (xs ++ y ∷ []) (length xs) ≡ Some y
  get_next [] y = refl
  get_next (x ∷ xs) y = get_next xs y

  pub stays : (log more : List A) (places : List ℕ) → AllWithin (length log) places → at_places (log ++ more) places ≡ at_places log places
  stays log more [] h = refl
  stays log more (i ∷ places) h = λ j. with_found (get_stays log more i h.0 j) (stays log more places h.1 j)

  pub still_within : (log more : List A) (places : List ℕ) → AllWithin (length log) places → AllWithin (length (log ++ more)) places
  still_within log more places h = subst (λ n. AllWithin n places) (sym (longer log more)) (wider (length log) (length more) places h)

  with_both : (x : Option A) (xs ys : List A) → with_found x (xs ++ ys) ≡ with_found x xs ++ ys
  with_both None xs ys = refl
  with_both (Some x) xs ys = refl

  pub behind : (log : List A) (places more : List ℕ) → at_places log (places ++ more) ≡ at_places log places ++ at_places log more
  behind log [] more = refl
  behind log (i ∷ places) more = ap (with_found (slice_get log i)) (behind log places more) ∙ with_both (slice_get log i) (at_places log places) (at_places log more)

  pub next : (log : List A) (x : A) (places : List ℕ) → AllWithin (length log) places → at_places (log ++ x ∷ []) (places ++ length log ∷ []) ≡ at_places log places ++ x ∷ []
  next log x places h =
      behind (log ++ x ∷ []) places (length log ∷ [])
      ∙ (λ j. stays log (x ∷ []) places h j ++ with_found (get_next log x j) [])

  pub next_within : (log : List A) (x : A) (places : List ℕ) → AllWithin (length log) places → AllWithin (length (log ++ x ∷ [])) (places ++ length log ∷ [])
  next_within log x places h =
      within_both (length (log ++ x ∷ [])) places (length log ∷ []) (still_within log (x ∷ []) places h)
      (let e = longer log (x ∷ []) in omega (arith, e), tt)

answers_behind : (log : List Logged) (x : Logged) → answers_in (log ++ x ∷ []) ≡ answers_in log ++ (x.slot, x.reply) ∷ []
answers_behind [] x = refl
answers_behind (y ∷ log) x = λ j. (y.slot, y.reply) ∷ answers_behind log x j

pub next_answer : (log : List Logged) (x : Logged) (places : List ℕ) → AllWithin (length log) places
    → answers_in (at_places (log ++ x ∷ []) (places ++ length log ∷ [])) ≡ answers_in (at_places log places) ++ (x.slot, x.reply) ∷ []
next_answer log x places h = ap answers_in (next log x places h) ∙ answers_behind (at_places log places) x
