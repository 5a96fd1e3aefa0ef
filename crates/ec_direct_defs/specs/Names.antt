-- What stands under names, which compare byte for byte.
use Rattle.std.specs.Prelude.{ℕ, Bool, cond, List, [], ◌∷◌, find, bytes_eq, Option, Some, None, option_map}
use Rattle.ec_transfer_defs.specs.declared.finding.Finding.{Finding}
use Rattle.ec_meaning_defs.specs.evaluation.State.{State}
use Rattle.ec_call_defs.specs.Outcomes.{Text, Outcome, gives, raised}

module _ {A : Type 0} where
  -- what a statement needs, or the code that ends it where that isn't there
  abbrev pub needed : ℕ → Finding → Option A → State → Outcome A
  needed line finding None s = raised line finding s
  needed line finding (Some a) s = gives a s

  -- the first that passes a test becomes something else
  abbrev pub first_changed : (A → Bool) → (A → A) → List A → List A
  first_changed test change [] = []
  first_changed test change (a ∷ as') =
      cond (test a) (change a ∷ as') (a ∷ first_changed test change as')

  -- the first that passes a test is taken out
  abbrev pub first_removed : (A → Bool) → List A → List A
  first_removed test [] = []
  first_removed test (a ∷ as') = cond (test a) as' (a ∷ first_removed test as')

  abbrev pub is_under : Text → Text × A → Bool
  is_under name e = bytes_eq e.0 name

  -- what stands under a name
  abbrev pub under : Text → List (Text × A) → Option A
  under name es = option_map (λ e. e.1) (find (is_under name) es)

  -- with this under a name: in the place of what is there, or else behind all others
  abbrev pub with_under : Text → A → List (Text × A) → List (Text × A)
  with_under name a [] = (name, a) ∷ []
  with_under name a (e ∷ es) = cond (is_under name e) ((name, a) ∷ es) (e ∷ with_under name a es)
