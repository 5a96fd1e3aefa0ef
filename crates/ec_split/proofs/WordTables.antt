-- A word is one of those of a table if it stands at its place there.
use Rattle.std.proofs.Common.{◌≡◌, ℕ, zero, suc, Bool, true, false, ◌||◌, List, [], ◌∷◌, length, get_or, refl, subst, inl, inr}
use Rattle.std.specs.Prelude.{◌==◌}
use Rattle.std.specs.List.{list_all}
use Rattle.ec_language.specs.Letters.{Text, is_empty, same_text, is_among}
use Rattle.ec_language.proofs.Ends.{both}
use Rattle.ec_language.proofs.Classes.{either}
use Rattle.ec_language.proofs.Marks.{same_text_is}
use Rattle.ec_split.specs.WordTables.{place_of, word_in, IsTableOf}

pub holds_among : (test : Text → Bool) (words : List Text) (w : Text) → list_all test words ≡ true → is_among words w ≡ true → test w ≡ true
holds_among test [] w a e = absurd (cc)
holds_among test (t ∷ words) w a e =
    let h = both (test t) (list_all test words) a in
    elim (either (same_text t w) (is_among words w) e) [
      | inl s ↦ subst (λ x. test x ≡ true) (same_text_is t w s) h.0
      | inr s ↦ holds_among test words w h.1 s
    ]

holds_at : (test : Text → Bool) (table : List Text) (n : ℕ) → list_all test table ≡ true → test [] ≡ true → test (get_or table n []) ≡ true
holds_at test [] n a e = e
holds_at test (t ∷ table) zero a e = (both (test t) (list_all test table) a).0
holds_at test (t ∷ table) (suc n) a e = holds_at test table n (both (test t) (list_all test table) a).1 e

some : (w : Text) → (length w == 0) ≡ false → is_empty w ≡ false
some [] e = absurd (cc)
some (b ∷ w) e = refl

pub looked_up : (words table : List Text) → IsTableOf words table → (w : Text) → (length w == 0) ≡ false → same_text (word_in table w) w ≡ is_among words w
looked_up words table k w s = go (some w s) (same_text (word_in table w) w) (is_among words w) refl refl
  where
    go : is_empty w ≡ false → (x y : Bool) → same_text (word_in table w) w ≡ x → is_among words w ≡ y → x ≡ y
    go e true true s m = refl
    go e false false s m = refl
    go e false true s m = let h = holds_among (λ v. same_text (word_in table v) v) words w k.has_all m in absurd (cc)
    go e true false s m =
        let h = holds_at (λ v. is_empty v || is_among words v) table (place_of w) k.has_only refl in
        let i : word_in table w ≡ w = same_text_is (word_in table w) w s in
        let j : (is_empty w || is_among words w) ≡ true = subst (λ v. (is_empty v || is_among words v) ≡ true) i h in
        absurd (cc)
