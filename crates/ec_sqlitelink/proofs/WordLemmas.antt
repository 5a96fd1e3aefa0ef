-- What is left of words behind the first one.
use Rattle.std.proofs.Common.{◌≡◌, ◌∙◌, ℕ, zero, suc, ◌==◌, eqb, Bool, true, false, ◌&&◌, List, [], ◌∷◌, ◌++◌, Option, Some, None, if◌then◌else◌, take, drop, length, ◌<◌, ◌≤◌, ◌-◌, refl, ap, sym, arith}
use Rattle.std.specs.Prelude.{IsTrue, ◌↔◌, nat_eq, slice_index}
use Rattle.std.specs.Cmp.Lexicographic.{pointwise}
use Rattle.std.proofs.lemmas.Bool.{false≢true, eq-eqb, eqb-true}
use Rattle.ec_sqlitelink.specs.declared.marks.Place.{Place}
use Rattle.ec_sqlitelink.specs.declared.marks.Place.TheVariants.{Free}
use Rattle.ec_sqlitelink.specs.Marks.{behind}
use Rattle.ec_sqlitelink.specs.Words.{Word, is_gap, word_at, passed, word_here, words_from, words_of, behind_gap, first, others}

-- what is passed over is dropped
pub passed_over : (k : ℕ) (text : List ℕ) → words_from Free k text ≡ words_from Free 0 (drop k text)
passed_over zero text = refl
passed_over (suc k) [] = refl
passed_over (suc k) (b ∷ more) = passed_over k more

-- the words of a text that begins with one
abbrev pub words_there : List ℕ → List Word
words_there [] = []
words_there (b ∷ more) = word_at (b ∷ more) ∷ words_from Free (passed b more) more

gap_step : (place : Place) (b : ℕ) (more : List ℕ) (gap : Bool) (next : Place)
    → words_from next 0 more ≡ words_there (behind_gap next more)
    → word_here gap (b ∷ more) ++ words_from (if gap then next else Free) (if gap then 0 else passed b more) more
    ≡ words_there (if gap then behind_gap next more else b ∷ more)
gap_step place b more true next ih = ih
gap_step place b more false next ih = refl

-- the words of a text are those behind its gap
pub behind_gaps : (place : Place) (text : List ℕ) → words_from place 0 text ≡ words_there (behind_gap place text)
behind_gaps place [] = refl
behind_gaps place (b ∷ more) =
    gap_step place b more (is_gap place b (slice_index more 0)) (behind place b (slice_index more 0))
    (behind_gaps (behind place b (slice_index more 0)) more)

pub next_word : (text : List ℕ) (b : ℕ) (more : List ℕ) → behind_gap Free text ≡ b ∷ more
    → words_of text ≡ word_at (b ∷ more) ∷ words_of (drop (passed b more) more)
next_word text b more e =
    behind_gaps Free text ∙ ap words_there e
    ∙ ap (λ words. word_at (b ∷ more) ∷ words) (passed_over (passed b more) more)

pub no_word : (text : List ℕ) → behind_gap Free text ≡ [] → words_of text ≡ []
no_word text e = behind_gaps Free text ∙ ap words_there e

pub first_some : (text : List ℕ) (b : ℕ) (more : List ℕ) → behind_gap Free text ≡ b ∷ more
    → Some (word_at (b ∷ more)) ≡ first (words_of text)
first_some text b more e = sym (ap first (next_word text b more e))

pub others_some : (text : List ℕ) (b : ℕ) (more : List ℕ) → behind_gap Free text ≡ b ∷ more
    → words_of (drop (passed b more) more) ≡ others (words_of text)
others_some text b more e = sym (ap others (next_word text b more e))

pub first_none : (text : List ℕ) → behind_gap Free text ≡ [] → None ≡ first (words_of text)
first_none text e = sym (ap first (no_word text e))

pub others_none : (text : List ℕ) → behind_gap Free text ≡ [] → [] ≡ others (words_of text)
others_none text e = sym (ap others (no_word text e))

-- a text of no byte
pub nothing : (text : List ℕ) → length text < 1 → text ≡ []
nothing [] h = refl
nothing (b ∷ more) h = absurd (omega (arith, h))

take_all : (n : ℕ) (text : List ℕ) → length text ≤ n → take n text ≡ text
take_all zero [] h = refl
take_all zero (b ∷ more) h = absurd (omega (arith, h))
take_all (suc n) [] h = refl
take_all (suc n) (b ∷ more) h = ap (λ l. b ∷ l) (take_all n more (omega (arith, h)))

dropped_length : (k : ℕ) (text : List ℕ) → length (drop k text) ≤ length text - k
dropped_length zero text = omega arith
dropped_length (suc k) [] = omega arith
dropped_length (suc k) (b ∷ more) = omega (arith, dropped_length k more)

-- behind the first byte
abbrev pub tail_of : List ℕ → List ℕ
tail_of text = take (length text - 1) (drop 1 text)

begins : (text : List ℕ) → 1 ≤ length text → text ≡ slice_index text 0 ∷ tail_of text
begins [] h = absurd (omega (arith, h))
begins (b ∷ more) h = ap (λ l. b ∷ l) (sym (take_all (length (b ∷ more) - 1) more (omega arith)))

-- the words behind the first one, where it begins this text
pub words_left : (text there : List ℕ) (k : ℕ) → there ≡ behind_gap Free text → 1 ≤ length there → k ≡ passed (slice_index there 0) (tail_of there)
    → words_of (take (length (tail_of there) - k) (drop k (tail_of there))) ≡ others (words_of text)
words_left text there k e h is =
    ap words_of (take_all (length (tail_of there) - k) (drop k (tail_of there)) (dropped_length k (tail_of there)))
    ∙ ap (λ n. words_of (drop n (tail_of there))) is
    ∙ others_some text (slice_index there 0) (tail_of there) (sym e ∙ begins there h)

-- ---- texts that are the same

same_step : (x y : ℕ) (a b : List ℕ) (t : Bool) → nat_eq x y ≡ t → (pointwise nat_eq a b ≡ true → a ≡ b)
    → (t && pointwise nat_eq a b) ≡ true → (x ∷ a) ≡ (y ∷ b)
same_step x y a b true e ih h = ap (λ z. z ∷ a) (eqb-true x y e) ∙ ap (λ l. y ∷ l) (ih h)
same_step x y a b false e ih h = absurd (false≢true h)

pub same_from : (a b : List ℕ) → pointwise nat_eq a b ≡ true → a ≡ b
same_from [] [] h = refl
same_from [] (y ∷ b) h = absurd (false≢true h)
same_from (x ∷ a) [] h = absurd (false≢true h)
same_from (x ∷ a) (y ∷ b) h = same_step x y a b (nat_eq x y) refl (same_from a b) h

pub same_to : (a : List ℕ) → pointwise nat_eq a a ≡ true
same_to [] = refl
same_to (x ∷ a) = ap (λ t. t && pointwise nat_eq a a) (eq-eqb x x refl) ∙ same_to a

pub decides_same : (r : Bool) (a b : List ℕ) → (IsTrue r ↔ (a ≡ b)) → r ≡ pointwise nat_eq a b
decides_same true a b h = sym (ap (λ l. pointwise nat_eq l b) (h.0 refl) ∙ same_to b)
decides_same false a b h = tested (pointwise nat_eq a b) refl
  where
    tested : (t : Bool) → pointwise nat_eq a b ≡ t → false ≡ t
    tested true e = absurd (false≢true (h.1 (same_from a b e)))
    tested false e = refl
