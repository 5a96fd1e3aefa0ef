-- Names that are put into tables.
use Rattle.std.proofs.Common.{◌≡◌, ◌⊎◌, inl, inr, Bool, true, false, [], ◌∷◌, Some, None, refl, sym, ap, subst, ◌∙◌, ◌&&◌, eq-eqb, if◌then◌else◌}
use Rattle.ec_language.specs.Letters.{Text, same_text}
use Rattle.ec_typing_defs.specs.Tables.{Named, find, put}
use Rattle.ec_sim_world_laws.proofs.closing_lemmas.Lists.{some_is}

same_self : (w : Text) → same_text w w ≡ true
same_self [] = refl
same_self (b ∷ w) = subst (λ c. (c && same_text w w) ≡ true) (sym (eq-eqb b b refl)) (same_self w)

-- a name stands for what was put there, or for what it stood for
pub find_put : {V : Type 0} (x name : Text) (v a : V) (es : Named V) → find x (put name v es) ≡ Some a → (v ≡ a) ⊎ (find x es ≡ Some a)
find_put {V} x name v a [] is = go (same_text x name) is
  where
    go : (t : Bool) → (if t then Some v else None) ≡ Some a → (v ≡ a) ⊎ (None ≡ Some a)
    go true is = inl (some_is is)
    go false is = inr is
find_put {V} x name v a (e ∷ es) is = go (same_text name e.0) is (find_put x name v a es)
  where
    hit : (t : Bool) → (if t then Some v else find x es) ≡ Some a → (v ≡ a) ⊎ ((if t then Some e.1 else find x es) ≡ Some a)
    hit true is = inl (some_is is)
    hit false is = inr is

    miss : (t : Bool) → (if t then Some e.1 else find x (put name v es)) ≡ Some a → (find x (put name v es) ≡ Some a → (v ≡ a) ⊎ (find x es ≡ Some a))
        → (v ≡ a) ⊎ ((if t then Some e.1 else find x es) ≡ Some a)
    miss true is rest = inr is
    miss false is rest = rest is

    go : (t : Bool) → find x (if t then (e.0, v) ∷ es else e ∷ put name v es) ≡ Some a → (find x (put name v es) ≡ Some a → (v ≡ a) ⊎ (find x es ≡ Some a)) → (v ≡ a) ⊎ (find x (e ∷ es) ≡ Some a)
    go true is rest = hit (same_text x e.0) is
    go false is rest = miss (same_text x e.0) is rest

-- what is put last counts
pub put_twice : {V : Type 0} (name : Text) (u v : V) (es : Named V) → put name v (put name u es) ≡ put name v es
put_twice {V} name u v [] = λ i. if same_self name i then (name, v) ∷ [] else (name, u) ∷ (name, v) ∷ []
put_twice {V} name u v (e ∷ es) = go (same_text name e.0) refl (put_twice name u v es)
  where
    go : (t : Bool) → same_text name e.0 ≡ t → put name v (put name u es) ≡ put name v es → put name v (if t then (e.0, u) ∷ es else e ∷ put name u es) ≡ (if t then (e.0, v) ∷ es else e ∷ put name v es)
    go true same rest = λ i. if same i then (e.0, v) ∷ es else (e.0, u) ∷ put name v es
    go false other rest = (λ i. if other i then (e.0, v) ∷ put name u es else e ∷ put name v (put name u es)) ∙ ap (λ xs. e ∷ xs) rest
