-- Loops over lists.
use Rattle.std.proofs.Common.{◌≡◌, ◌∙◌, ℕ, suc, ◌+◌, ◌<◌, List, [], ◌∷◌, ◌++◌, length, drop, map, get_or, sym, ap, add-one, append_assoc}
use Rattle.std.proofs.Math.Seq.{drop-cons}
use Rattle.std.proofs.lemmas.List.{map-append}

-- the first of what is left
pub drop_item : {A : Type 0} (xs : List A) (i : ℕ) (x : A) → i < length xs → x ≡ get_or xs i x → drop i xs ≡ x ∷ drop (i + 1) xs
drop_item xs i x lt e = drop-cons xs i x lt ∙ ap (λ y. y ∷ drop (suc i) xs) (sym e) ∙ ap (λ n. x ∷ drop n xs) (sym (add-one i))

-- one more is done
pub one_done : {A B : Type 0} (f : A → B) (xs ys : List A) (x : A) → ys ≡ xs ++ (x ∷ []) → (rest : List B) → map f xs ++ (f x ∷ rest) ≡ map f ys ++ rest
one_done f xs ys x e rest = sym (ap (λ zs. map f zs ++ rest) e ∙ ap (λ zs. zs ++ rest) (map-append f xs (x ∷ [])) ∙ append_assoc (map f xs) (f x ∷ []) rest)

pub one_more : {A : Type 0} (xs ys : List A) (x : A) → ys ≡ xs ++ (x ∷ []) → (rest : List A) → xs ++ (x ∷ rest) ≡ ys ++ rest
one_more xs ys x e rest = sym (ap (λ zs. zs ++ rest) e ∙ append_assoc xs (x ∷ []) rest)
