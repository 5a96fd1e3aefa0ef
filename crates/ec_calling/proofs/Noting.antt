-- The places of what was said.
use Rattle.std.proofs.Common.{◌≡◌, ◌∙◌, ◌⊎◌, inl, inr, ◌<◌, ◌≤◌, ℕ, suc, List, [], ◌∷◌, ◌++◌, length, take, sym, subst, ap, append-nil, append_assoc, arith}
use Rattle.std.proofs.lemmas.List.{take_at}
use Rattle.ec_link.specs.declared.logged.Logged.{Logged}
use Rattle.ec_stopping_defs.proofs.Staying.{next, next_within}
use Rattle.ec_stopping_defs.specs.Places.{AllWithin, at_places}
use Rattle.ec_calling.specs.Laws.{longer}
use Rattle.ec_calling.specs.Leading.{places_of}

-- ---- what stands at them

one_longer : (log : List Logged) (x : Logged) → length (log ++ x ∷ []) ≡ suc (length log)
one_longer log x = let e = longer log (x ∷ []) in omega (arith, e)

first_apart : (log : List Logged) (x : Logged) (more : List Logged) (places : List ℕ)
    → places ++ places_of (length log) (x ∷ more) ≡ (places ++ length log ∷ []) ++ places_of (length (log ++ x ∷ [])) more
first_apart log x more places =
    ap (λ n. places ++ length log ∷ places_of n more) (sym (one_longer log x))
    ∙ sym (append_assoc places (length log ∷ []) (places_of (length (log ++ x ∷ [])) more))

-- what was said stands at its places, behind what stood there
pub heard : (log growth : List Logged) (places : List ℕ) → AllWithin (length log) places → at_places (log ++ growth) (places ++ places_of (length log) growth) ≡ at_places log places ++ growth
heard log [] places h = (λ j. at_places (append-nil log j) (append-nil places j)) ∙ sym (append-nil (at_places log places))
heard log (x ∷ more) places h =
    (λ j. at_places (sym (append_assoc log (x ∷ []) more) j) (first_apart log x more places j))
    ∙ heard (log ++ x ∷ []) more (places ++ length log ∷ []) (next_within log x places h)
    ∙ ap (λ l. l ++ more) (next log x places h)
    ∙ append_assoc (at_places log places) (x ∷ []) more

-- and they lie within the log
pub heard_within : (log growth : List Logged) (places : List ℕ) → AllWithin (length log) places → AllWithin (length (log ++ growth)) (places ++ places_of (length log) growth)
heard_within log [] places h =
    subst (λ l. AllWithin (length l) (places ++ [])) (sym (append-nil log)) (subst (λ p. AllWithin (length log) p) (sym (append-nil places)) h)
heard_within log (x ∷ more) places h =
    subst (λ l. AllWithin (length l) (places ++ places_of (length log) (x ∷ more))) (append_assoc log (x ∷ []) more)
    (subst (λ p. AllWithin (length ((log ++ x ∷ []) ++ more)) p) (sym (first_apart log x more places))
    (heard_within (log ++ x ∷ []) more (places ++ length log ∷ []) (next_within log x places h)))

-- the same of a log and places that are equal to these
pub heard_so : (log log' growth : List Logged) (before after : List ℕ) → AllWithin (length log) before → log' ≡ log ++ growth → after ≡ before ++ places_of (length log) growth → at_places log' after ≡ at_places log before ++ growth
heard_so log log' growth before after h e n = (λ j. at_places (e j) (n j)) ∙ heard log growth before h

pub within_so : (log log' growth : List Logged) (before after : List ℕ) → AllWithin (length log) before → log' ≡ log ++ growth → after ≡ before ++ places_of (length log) growth → AllWithin (length log') after
within_so log log' growth before after h e n =
    subst (λ l. AllWithin (length l) after) (sym e) (subst (λ p. AllWithin (length (log ++ growth)) p) (sym n) (heard_within log growth before h))

-- ---- a place that is taken before, and given back where nothing was said

module _ (log log' growth : List Logged) (before among after : List ℕ) (at count : ℕ) (here : at ≡ length log) (many : count ≡ length before) (pushed : among ≡ before ++ at ∷ []) (grew : log' ≡ log ++ growth)
    (said : at < length log' → after ≡ among) (unsaid : length log' ≤ at → after ≡ take count among) where
  noted_none : growth ≡ [] → after ≡ before ++ places_of (length log) growth
  noted_none e =
      let same : log' ≡ log = grew ∙ ap (λ g. log ++ g) e ∙ append-nil log in
      let long : length log' ≡ length log = ap length same in
      unsaid (omega (arith, here, long)) ∙ ap (take count) pushed ∙ take_at before (at ∷ []) count (sym many)
      ∙ sym (append-nil before) ∙ ap (λ g. before ++ places_of (length log) g) (sym e)

  noted_one : (x : Logged) → growth ≡ x ∷ [] → after ≡ before ++ places_of (length log) growth
  noted_one x e =
      let long : length log' ≡ suc (length log) = ap length (grew ∙ ap (λ g. log ++ g) e) ∙ one_longer log x in
      said (omega (arith, here, long)) ∙ pushed ∙ ap (λ n. before ++ n ∷ []) here ∙ ap (λ g. before ++ places_of (length log) g) (sym e)

  pub noted_so : ((growth ≡ []) ⊎ (x : Logged) × (growth ≡ x ∷ [])) → after ≡ before ++ places_of (length log) growth
  noted_so (inl e) = noted_none e
  noted_so (inr (x, e)) = noted_one x e
