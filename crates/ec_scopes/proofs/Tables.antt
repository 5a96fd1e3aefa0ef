-- The entries of a hash table are a table of the definition.
use Rattle.std.proofs.Common.{◌≡◌, ℕ, Bool, true, false, nat_eq, List, [], ◌∷◌, map, Some, cond, Vec, Global, refl, ap}
use Rattle.std.specs.Cmp.Lexicographic.{pointwise}
use Rattle.std.specs.Map.{lookup}
use Rattle.indexmap.specs.IndexMap.{insert_entry}
use Rattle.ec_language.specs.Letters.{Text, same_text}
use Rattle.ec_typing_defs.specs.Tables.{Named, find, put}

abbrev pub Entries : Type 0 → Type 0
Entries V = List (Vec ℕ Global × V)

abbrev pub row : {V : Type 0} → Vec ℕ Global × V → Text × V
row e = (e.0.items, e.1)

pub find-rows : {V : Type 0} (name : Text) (es : Entries V) → lookup (λ k. pointwise nat_eq name k.items) es ≡ find name (map row es)
find-rows name [] = refl
find-rows name (e ∷ es) = ap (cond (same_text name e.0.items) (Some e.1)) (find-rows name es)

pub put-rows : {V : Type 0} (key : Vec ℕ Global) (v : V) (es : Entries V) → map row (insert_entry (λ x y. pointwise nat_eq x.items y.items) es key v) ≡ put key.items v (map row es)
put-rows key v [] = refl
put-rows {V} key v (e ∷ es) = by (same_text key.items e.0.items) _ _ (put-rows key v es)
  where
    by : (b : Bool) (rest : Entries V) (named : Named V) → map row rest ≡ named → map row (cond b ((e.0, v) ∷ es) (e ∷ rest)) ≡ cond b ((e.0.items, v) ∷ map row es) (row e ∷ named)
    by true rest named p = refl
    by false rest named p = ap (λ named. row e ∷ named) p
