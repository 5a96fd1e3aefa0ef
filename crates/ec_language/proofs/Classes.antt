-- Bytes of different classes, and texts that begin with two given bytes.
use Rattle.std.proofs.Common.{◌≡◌, ℕ, ◌+◌, Bool, true, false, not, ◌&&◌, ◌||◌, ◌⊎◌, [], ◌∷◌, ◌++◌, drop, refl, sym, ap, subst, arith, eqb-true, ne_eqb, inl, inr}
use Rattle.std.specs.Prelude.{codes, ◌==◌}
use Rattle.std.proofs.lemmas.Bool.Decides.{nat_tests}
use Rattle.ec_language.specs.Letters.{Text, single_quote, double_quote, dot, is_upper, is_digit, is_word_start, is_sql_word_start, is_quote, begins, begins_with, each, same_word, lower}
use Rattle.ec_language.specs.ReadPieces.{behind_all}
use Rattle.ec_language.proofs.Ends.{both, Plain}

-- bytes in and out of a class
pub apart : (class : ℕ → Bool) (b p : ℕ) → class b ≡ true → class p ≡ false → (b == p) ≡ false
apart class b p e n = ne_eqb b p (λ h. let other : class b ≡ false = subst (λ t. class t ≡ false) (sym h) n in absurd (cc))

pub either : (x y : Bool) → (x || y) ≡ true → (x ≡ true) ⊎ (y ≡ true)
either true y e = inl refl
either false y e = inr e

pub neither : (x y : Bool) → (x || y) ≡ false → (x ≡ false) × (y ≡ false)
neither true y e = absurd (cc)
neither false y e = (refl, e)

pub turn_not : (x : Bool) → not x ≡ true → x ≡ false
turn_not true e = absurd (cc)
turn_not false e = refl

pub digit_no_word : (b : ℕ) → is_digit b ≡ true → is_word_start b ≡ false
digit_no_word b e = grind (arith, nat_tests)

pub number_no_sql_word : (b : ℕ) (bs : Text) → (is_digit b || (b == dot && begins is_digit bs)) ≡ true → is_sql_word_start b ≡ false
number_no_sql_word b bs e = elim (either (is_digit b) (b == dot && begins is_digit bs) e) [
  | inl d ↦ digit d
  | inr d ↦ let k : b ≡ dot = eqb-true b dot ((both (b == dot) (begins is_digit bs) d).0) in rw k refl
]
  where
    digit : is_digit b ≡ true → is_sql_word_start b ≡ false
    digit h = grind (arith, nat_tests)

-- a quote is one of two bytes
pub quotes : (b : ℕ) → is_quote b ≡ true → (b ≡ single_quote) ⊎ (b ≡ double_quote)
quotes b e = elim (either (b == single_quote) (b == double_quote) e) [ inl h ↦ inl (eqb-true b single_quote h) | inr h ↦ inr (eqb-true b double_quote h) ]

pub plain_quote : (b : ℕ) → is_quote b ≡ true → Plain b
plain_quote b e = elim (quotes b e) [
  | inl h ↦ subst Plain (sym h) (record { no_newline = refl; no_backslash = refl })
  | inr h ↦ subst Plain (sym h) (record { no_newline = refl; no_backslash = refl })
]

-- the word `E` is one of two bytes
pub e_word : (b : ℕ) → same_word (b ∷ []) (codes "E") ≡ true → (b ≡ 69) ⊎ (b ≡ 101)
e_word b e = go (is_upper b) ((both (lower b == 101) true e).0) refl
  where
    go : (x : Bool) → (lower b == 101) ≡ true → is_upper b ≡ x → (b ≡ 69) ⊎ (b ≡ 101)
    go true h u = let k : b + 32 ≡ 101 = eqb-true (b + 32) 101 (rw u at h) in inl (omega arith)
    go false h u = let k : b ≡ 101 = eqb-true b 101 (rw u at h) in inr k

-- a text that begins with two bytes
pub two_bytes : (x y b : ℕ) (bs : Text) → begins_with (x ∷ y ∷ []) (b ∷ bs) ≡ true → b ∷ bs ≡ x ∷ y ∷ drop 1 bs
two_bytes x y b [] e = absurd (let h = both (x == b) false e in cc (h.1))
two_bytes x y b (c ∷ bs) e =
    let h = both (x == b) ((y == c) && true) e in
    let k = both (y == c) true h.1 in
    let p : x ≡ b = eqb-true x b h.0 in
    let q : y ≡ c = eqb-true y c k.0 in
    cc

pub opened : (x y : ℕ) (u : Text) → begins_with (x ∷ y ∷ []) u ≡ true → u ≡ x ∷ y ∷ drop 2 u
opened x y [] e = absurd (cc)
opened x y (b ∷ bs) e = two_bytes x y b bs e

-- ---- as many bytes of a class as there are

pub record AllSplit (test : ℕ → Bool) (text rest : Text) : Type 0 where
  pub unit : Text
  pub whole : text ≡ unit ++ rest
  pub fits : each test unit ≡ true
  pub ends : begins test rest ≡ false

all_step : (x : Bool) (test : ℕ → Bool) (b : ℕ) (bs r : Text) → test b ≡ x → (behind_all test bs ≡ r → AllSplit test bs r)
    → elim x [ true ↦ behind_all test bs | false ↦ b ∷ bs ] ≡ r → AllSplit test (b ∷ bs) r
all_step true test b bs r e ih h = let s = ih h in record { unit = b ∷ s.unit; whole = ap (λ t. b ∷ t) s.whole; fits = rw (e, each) s.fits; ends = s.ends }
all_step false test b bs r e ih h = record { unit = []; whole = h; fits = refl; ends = subst (λ t. begins test t ≡ false) h e }

pub all_sound : (test : ℕ → Bool) (t r : Text) → behind_all test t ≡ r → AllSplit test t r
all_sound test [] r h = record { unit = []; whole = h; fits = refl; ends = subst (λ t. begins test t ≡ false) h refl }
all_sound test (b ∷ bs) r h = all_step (test b) test b bs r refl (all_sound test bs r) h

all_none : (test : ℕ → Bool) (r : Text) → begins test r ≡ false → behind_all test r ≡ r
all_none test [] e = refl
all_none test (b ∷ bs) e = rw (e, behind_all) refl

pub all_complete : (test : ℕ → Bool) (u r : Text) → each test u ≡ true → begins test r ≡ false → behind_all test (u ++ r) ≡ r
all_complete test [] r f e = all_none test r e
all_complete test (b ∷ u) r f e = let h = both (test b) (each test u) f in rw (h.0, behind_all) (all_complete test u r h.1 e)
