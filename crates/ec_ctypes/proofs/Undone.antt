-- Functions that another one undoes.
use Rattle.std.proofs.Common.{◌≡◌, refl, sym, ◌∙◌, ap, List, [], ◌∷◌, map}
use Rattle.std.specs.Prelude.{Option, Some, None, option_map}

-- what can be undone gives equal results of equal values alone
pub undone_same : {A : Type 0} → {B : Type 0} → (view : A → B) → (back : B → A) → ((a : A) → back (view a) ≡ a) → (a : A) → (b : A) → view a ≡ view b → a ≡ b
undone_same view back undoes a b e = sym (undoes a) ∙ ap back e ∙ undoes b

-- item by item
pub map_undone : {A : Type 0} → {B : Type 0} → (view : A → B) → (back : B → A) → ((a : A) → back (view a) ≡ a) → (xs : List A) → map back (map view xs) ≡ xs
map_undone view back undoes [] = refl
map_undone view back undoes (a ∷ xs) = λ i. undoes a i ∷ map_undone view back undoes xs i

-- of what may be missing
pub option_undone : {A : Type 0} → {B : Type 0} → (view : A → B) → (back : B → A) → ((a : A) → back (view a) ≡ a) → (a : Option A) → option_map back (option_map view a) ≡ a
option_undone view back undoes None = refl
option_undone view back undoes (Some a) = λ i. Some (undoes a i)
