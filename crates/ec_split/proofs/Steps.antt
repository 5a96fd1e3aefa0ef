-- One step of each scan, in a text at an index.
use Rattle.std.proofs.Common.{◌≡◌, ℕ, zero, suc, ◌+◌, ◌-◌, ◌<◌, ◌≤◌, Bool, true, false, not, ◌&&◌, [], ◌∷◌, length, drop, get_or, refl, sym, ap, ◌∙◌, subst, arith, drop-cons, add-one, length-drop, eq-eqb, ne_eqb}
use Rattle.std.specs.Prelude.{codes, ◌==◌}
use Rattle.ec_language.specs.Letters.{Text, newline, backslash, single_quote, is_not_newline, begins_with}
use Rattle.ec_language.specs.ReadPieces.{Behind, passed, cut, behind_all, comment_end, quote_end, escaped_end, nested_end}
use Rattle.ec_language.proofs.Ends.{both}

-- the byte at an index, and what stands behind it
pub at_place : (t : Text) (i : ℕ) → i < length t → drop i t ≡ get_or t i 0 ∷ drop (i + 1) t
at_place t i h = drop-cons t i 0 h ∙ ap (λ n. get_or t i 0 ∷ drop n t) (sym (add-one i))

pub past : (t : Text) (i : ℕ) → length t ≤ i → drop i t ≡ []
past [] zero h = refl
past [] (suc i) h = refl
past (b ∷ t) zero h = absurd (omega arith)
past (b ∷ t) (suc i) h = past t i (omega arith)

two_places : (t : Text) (i : ℕ) → i + 2 ≤ length t → drop i t ≡ get_or t i 0 ∷ get_or t (i + 1) 0 ∷ drop (i + 2) t
two_places t i h =
    let first : i < length t = omega arith in
    let second : i + 1 < length t = omega arith in
    let n : i + 1 + 1 ≡ i + 2 = omega arith in
    at_place t i first ∙ ap (λ x. get_or t i 0 ∷ x) (at_place t (i + 1) second) ∙ ap (λ k. get_or t i 0 ∷ get_or t (i + 1) 0 ∷ drop k t) n

-- ---- bytes of a class

pub class_on : (test : ℕ → Bool) (t : Text) (i : ℕ) → i < length t → test (get_or t i 0) ≡ true → behind_all test (drop i t) ≡ behind_all test (drop (i + 1) t)
class_on test t i h e = ap (behind_all test) (at_place t i h) ∙ rw (e, behind_all) refl

pub class_off : (test : ℕ → Bool) (t : Text) (i : ℕ) → i < length t → test (get_or t i 0) ≡ false → behind_all test (drop i t) ≡ drop i t
class_off test t i h e = ap (behind_all test) (at_place t i h) ∙ rw (e, behind_all) refl ∙ sym (at_place t i h)

pub class_end : (test : ℕ → Bool) (t : Text) (i : ℕ) → length t ≤ i → behind_all test (drop i t) ≡ drop i t
class_end test t i h = ap (behind_all test) (past t i h) ∙ sym (past t i h)

pub later : (j i : ℕ) (t : Text) → drop j (drop i t) ≡ drop (i + j) t
later j zero t = let n : 0 + j ≡ j = omega arith in ap (λ k. drop k t) (sym n)
later zero (suc i) [] = let n : suc i + 0 ≡ suc i = omega arith in ap (λ k. drop k []) (sym n)
later (suc j) (suc i) [] = let n : suc i + suc j ≡ suc (i + suc j) = omega arith in ap (λ k. drop k []) (sym n)
later j (suc i) (b ∷ t) = let n : suc i + j ≡ suc (i + j) = omega arith in later j i t ∙ ap (λ k. drop k (b ∷ t)) (sym n)

pub same_byte : (a b : ℕ) → a ≡ b → (a == b) ≡ true
same_byte a b e = eq-eqb a b e

pub other_byte : (a b : ℕ) → (a ≡ b → ⊥) → (a == b) ≡ false
other_byte a b e = ne_eqb a b e

-- ---- two bytes

never : (a b : Bool) → b ≡ false → (a && b) ≡ false
never true b e = e
never false b e = refl

short_case : (x y : ℕ) (s : Text) → length s < 2 → begins_with (x ∷ y ∷ []) s ≡ false
short_case x y [] h = refl
short_case x y (b ∷ []) h = never (x == b) false refl
short_case x y (b ∷ c ∷ s) h = absurd (omega arith)

pub short_two : (t : Text) (x y i : ℕ) → length t - i < 2 → begins_with (x ∷ y ∷ []) (drop i t) ≡ false
short_two t x y i h = short_case x y (drop i t) (omega (arith, length-drop i t))

-- ---- comments

comment_off : (s : Text) → begins_with (codes "*/") s ≡ false → comment_end (drop 1 s) ≡ comment_end s
comment_off [] e = refl
comment_off (b ∷ []) e = refl
comment_off (b ∷ c ∷ s) e = rw (e, comment_end) refl

comment_at : (s : Text) → begins_with (codes "*/") s ≡ true → passed (drop 2 s) ≡ comment_end s
comment_at [] e = absurd (cc)
comment_at (b ∷ []) e = absurd (cc ((both (42 == b) false e).1))
comment_at (b ∷ c ∷ s) e = rw (e, comment_end) refl

pub comment_on : (t : Text) (i : ℕ) → begins_with (codes "*/") (drop i t) ≡ false → comment_end (drop (i + 1) t) ≡ comment_end (drop i t)
comment_on t i e = ap comment_end (sym (later 1 i t)) ∙ comment_off (drop i t) e

pub comment_done : (t : Text) (i : ℕ) → begins_with (codes "*/") (drop i t) ≡ true → passed (drop (i + 2) t) ≡ comment_end (drop i t)
comment_done t i e = ap passed (sym (later 2 i t)) ∙ comment_at (drop i t) e

-- ---- quotes of C text

quote_closes : (q b : ℕ) (s : Text) → (b == q) ≡ true → passed s ≡ quote_end q (b ∷ s)
quote_closes q b [] e = rw (e, quote_end) refl
quote_closes q b (c ∷ s) e = rw (e, quote_end) refl

pub quote_done : (q : ℕ) (t : Text) (i : ℕ) → i < length t → get_or t i 0 ≡ q → passed (drop (i + 1) t) ≡ quote_end q (drop i t)
quote_done q t i h e = quote_closes q (get_or t i 0) (drop (i + 1) t) (same_byte (get_or t i 0) q e) ∙ ap (quote_end q) (sym (at_place t i h))

quote_cuts : (q b : ℕ) (s : Text) → (b == q) ≡ false → b ≡ newline → cut (b ∷ s) ≡ quote_end q (b ∷ s)
quote_cuts q b s e n = subst (λ x. (x == q) ≡ false → cut (x ∷ s) ≡ quote_end q (x ∷ s)) (sym n) (go s) e
  where
    go : (s : Text) → (newline == q) ≡ false → cut (newline ∷ s) ≡ quote_end q (newline ∷ s)
    go [] h = rw (h, quote_end) refl
    go (c ∷ s) h = rw (h, quote_end) refl

pub quote_cut : (q : ℕ) (t : Text) (i : ℕ) → i < length t → (get_or t i 0 ≡ q → ⊥) → get_or t i 0 ≡ newline → cut (drop i t) ≡ quote_end q (drop i t)
quote_cut q t i h e n =
    let k = at_place t i h in ap cut k ∙ quote_cuts q (get_or t i 0) (drop (i + 1) t) (other_byte (get_or t i 0) q e) n ∙ ap (quote_end q) (sym k)

quote_goes : (q b : ℕ) (s : Text) → (b == q) ≡ false → (b == backslash) ≡ false → is_not_newline b ≡ true → quote_end q s ≡ quote_end q (b ∷ s)
quote_goes q b [] x y z = rw (x, z, quote_end) refl
quote_goes q b (c ∷ s) x y z = rw (x, y, z, quote_end) refl

not_newline : (b : ℕ) → (b ≡ newline → ⊥) → is_not_newline b ≡ true
not_newline b e = ap not (other_byte b newline e)

pub quote_on : (q : ℕ) (t : Text) (i : ℕ) → i < length t → (get_or t i 0 ≡ q → ⊥) → (get_or t i 0 ≡ backslash → ⊥) → (get_or t i 0 ≡ newline → ⊥)
    → quote_end q (drop (i + 1) t) ≡ quote_end q (drop i t)
quote_on q t i h e b n =
    let x = get_or t i 0 in quote_goes q x (drop (i + 1) t) (other_byte x q e) (other_byte x backslash b) (not_newline x n) ∙ ap (quote_end q) (sym (at_place t i h))

skip_is : (q b c : ℕ) (s : Text) → (b == q) ≡ false → (b == backslash) ≡ true → is_not_newline c ≡ true → quote_end q s ≡ quote_end q (b ∷ c ∷ s)
skip_is q b c s x y z = rw (x, y, z, quote_end) refl

pub quote_skip : (q : ℕ) (t : Text) (i : ℕ) → i + 1 < length t → (get_or t i 0 ≡ q → ⊥) → get_or t i 0 ≡ backslash → (get_or t (i + 1) 0 ≡ newline → ⊥)
    → quote_end q (drop (i + 2) t) ≡ quote_end q (drop i t)
quote_skip q t i h e b n =
    let x = get_or t i 0 in
    let y = get_or t (i + 1) 0 in
    skip_is q x y (drop (i + 2) t) (other_byte x q e) (same_byte x backslash b) (not_newline y n) ∙ ap (quote_end q) (sym (two_places t i (omega arith)))

cut_skip_is : (q b c : ℕ) (s : Text) → (b == q) ≡ false → (b == backslash) ≡ true → is_not_newline c ≡ false → cut (c ∷ s) ≡ quote_end q (b ∷ c ∷ s)
cut_skip_is q b c s x y z = rw (x, y, z, quote_end) refl

pub quote_skip_cut : (q : ℕ) (t : Text) (i : ℕ) → i + 1 < length t → (get_or t i 0 ≡ q → ⊥) → get_or t i 0 ≡ backslash → get_or t (i + 1) 0 ≡ newline
    → cut (drop (i + 1) t) ≡ quote_end q (drop i t)
quote_skip_cut q t i h e b n =
    let x = get_or t i 0 in
    let y = get_or t (i + 1) 0 in
    let m : i + 1 + 1 ≡ i + 2 = omega arith in
    ap cut (at_place t (i + 1) h ∙ ap (λ k. y ∷ drop k t) m)
    ∙ cut_skip_is q x y (drop (i + 2) t) (other_byte x q e) (same_byte x backslash b) (ap not (same_byte y newline n)) ∙ ap (quote_end q) (sym (two_places t i (omega arith)))

-- ---- quotes behind the word `E`

escape_is : (b c : ℕ) (s : Text) → (b == backslash) ≡ true → escaped_end s ≡ escaped_end (b ∷ c ∷ s)
escape_is b c s y = rw (y, escaped_end) refl

pub escaped_skip : (t : Text) (i : ℕ) → i + 1 < length t → get_or t i 0 ≡ backslash → escaped_end (drop (i + 2) t) ≡ escaped_end (drop i t)
escaped_skip t i h b = escape_is (get_or t i 0) (get_or t (i + 1) 0) (drop (i + 2) t) (same_byte _ backslash b) ∙ ap escaped_end (sym (two_places t i (omega arith)))

doubled_is : (b c : ℕ) (s : Text) → b ≡ single_quote → (c == single_quote) ≡ true → escaped_end s ≡ escaped_end (b ∷ c ∷ s)
doubled_is b c s y z = subst (λ x. escaped_end s ≡ escaped_end (x ∷ c ∷ s)) (sym y) (rw (z, escaped_end) refl)

pub escaped_doubled : (t : Text) (i : ℕ) → i + 1 < length t → get_or t i 0 ≡ single_quote → get_or t (i + 1) 0 ≡ single_quote → escaped_end (drop (i + 2) t) ≡ escaped_end (drop i t)
escaped_doubled t i h b c = doubled_is (get_or t i 0) (get_or t (i + 1) 0) (drop (i + 2) t) b (same_byte _ single_quote c) ∙ ap escaped_end (sym (two_places t i (omega arith)))

escaped_goes : (b : ℕ) (s : Text) → (b == backslash) ≡ false → (b == single_quote) ≡ false → escaped_end s ≡ escaped_end (b ∷ s)
escaped_goes b [] x y = rw (y, escaped_end) refl
escaped_goes b (c ∷ s) x y = rw (x, y, escaped_end) refl

pub escaped_on : (t : Text) (i : ℕ) → i < length t → (get_or t i 0 ≡ backslash → ⊥) → (get_or t i 0 ≡ single_quote → ⊥) → escaped_end (drop (i + 1) t) ≡ escaped_end (drop i t)
escaped_on t i h b n =
    let x = get_or t i 0 in escaped_goes x (drop (i + 1) t) (other_byte x backslash b) (other_byte x single_quote n) ∙ ap escaped_end (sym (at_place t i h))

-- ---- comments of SQL text

nested_opens : (n : ℕ) (s : Text) → begins_with (codes "/*") s ≡ true → nested_end (suc n) (drop 2 s) ≡ nested_end n s
nested_opens n [] e = absurd (cc)
nested_opens n (b ∷ []) e = absurd (cc ((both (47 == b) false e).1))
nested_opens n (b ∷ c ∷ s) e = rw (e, nested_end) refl

pub nested_open : (n : ℕ) (t : Text) (i : ℕ) → begins_with (codes "/*") (drop i t) ≡ true → nested_end (n + 1) (drop (i + 2) t) ≡ nested_end n (drop i t)
nested_open n t i e = ap (λ k. nested_end k (drop (i + 2) t)) (add-one n) ∙ ap (nested_end (suc n)) (sym (later 2 i t)) ∙ nested_opens n (drop i t) e

nested_closes : (n : ℕ) (s : Text) → begins_with (codes "/*") s ≡ false → begins_with (codes "*/") s ≡ true → ◌≡◌ {A = Behind} (elim n [ zero ↦ passed (drop 2 s) | suc m ↦ nested_end m (drop 2 s) ]) (nested_end n s)
nested_closes n [] x e = absurd (cc)
nested_closes n (b ∷ []) x e = absurd (cc ((both (42 == b) false e).1))
nested_closes n (b ∷ c ∷ s) x e = rw (x, e, nested_end) refl

pub nested_done : (n : ℕ) (t : Text) (i : ℕ) → begins_with (codes "/*") (drop i t) ≡ false → begins_with (codes "*/") (drop i t) ≡ true → n ≡ 0 → passed (drop (i + 2) t) ≡ nested_end n (drop i t)
nested_done n t i x e z = ap passed (sym (later 2 i t)) ∙ nested_closes 0 (drop i t) x e ∙ ap (λ k. nested_end k (drop i t)) (sym z)

pub nested_close : (n : ℕ) (t : Text) (i : ℕ) → begins_with (codes "/*") (drop i t) ≡ false → begins_with (codes "*/") (drop i t) ≡ true → 0 < n → nested_end (n - 1) (drop (i + 2) t) ≡ nested_end n (drop i t)
nested_close zero t i x e z = absurd (omega arith)
nested_close (suc n) t i x e z =
    let m : suc n - 1 ≡ n = omega arith in ap (λ k. nested_end k (drop (i + 2) t)) m ∙ ap (nested_end n) (sym (later 2 i t)) ∙ nested_closes (suc n) (drop i t) x e

nested_goes : (n : ℕ) (s : Text) → begins_with (codes "/*") s ≡ false → begins_with (codes "*/") s ≡ false → nested_end n (drop 1 s) ≡ nested_end n s
nested_goes n [] x e = refl
nested_goes n (b ∷ []) x e = refl
nested_goes n (b ∷ c ∷ s) x e = rw (x, e, nested_end) refl

pub nested_on : (n : ℕ) (t : Text) (i : ℕ) → begins_with (codes "/*") (drop i t) ≡ false → begins_with (codes "*/") (drop i t) ≡ false → nested_end n (drop (i + 1) t) ≡ nested_end n (drop i t)
nested_on n t i x e = ap (nested_end n) (sym (later 1 i t)) ∙ nested_goes n (drop i t) x e
