-- The bytes that quoted text stands for, one after the other.
use Rattle.std.proofs.Common.{◌≡◌, ℕ, zero, suc, ◌+◌, ◌<◌, ◌≤◌, Bool, true, false, [], ◌∷◌, ◌++◌, length, drop, get_or, Option, Some, None, refl, sym, ap, ◌∙◌, subst, arith, length-drop, append_assoc, ne_eqb}
use Rattle.std.specs.Prelude.{option_map, nat_lt, ◌||◌, ◌==◌, if◌then◌else◌}
use Rattle.ec_language.specs.Letters.{Text, is_empty, backslash}
use Rattle.ec_language.specs.Constants.{is_digit_of, leading_digits, digits_value, simple_escape, byte_and_rest, numeric_escape, escape, first_byte, unescaped_within, unescaped, only_byte}
use Rattle.ec_clex.specs.Quotes.{first_of}
use Rattle.ec_split.proofs.Steps.{at_place}

-- bytes before those of a text
abbrev pub behind_bytes : Text → Option Text → Option Text
behind_bytes bytes o = option_map (λ more. bytes ++ more) o

-- ---- what stands for one byte leaves less

record Shorter (o : Option (ℕ × Text)) (most : ℕ) : Type 0 where
  is : (p : ℕ × Text) → o ≡ Some p → length p.1 ≤ most

nothing_short : (most : ℕ) → Shorter None most
nothing_short most = record { is = λ p e. absurd (cc) }

some_short : (b : ℕ) (rest : Text) (most : ℕ) → length rest ≤ most → Shorter (Some (b, rest)) most
some_short b rest most h = record { is = λ p e. let same : rest ≡ p.1 = ap (λ (o : Option (ℕ × Text)). elim o [ Some q ↦ q.1 | None ↦ rest ]) e in subst (λ r. length r ≤ most) same h }

simple_short : (o : Option ℕ) (rest : Text) (most : ℕ) → length rest ≤ most → Shorter (byte_and_rest o rest) most
simple_short None rest most h = nothing_short most
simple_short (Some b) rest most h = some_short b rest most h

numeric_short : (base most : ℕ) (s : Text) → Shorter (numeric_escape base most s) (length s)
numeric_short base most s = step (is_empty (leading_digits base most s) || nat_lt 255 (digits_value base (leading_digits base most s)))
  where
    step : (x : Bool) → Shorter (if x then None else Some (digits_value base (leading_digits base most s), drop (length (leading_digits base most s)) s)) (length s)
    step true = nothing_short (length s)
    step false = some_short (digits_value base (leading_digits base most s)) (drop (length (leading_digits base most s)) s) (length s) (omega (arith, length-drop (length (leading_digits base most s)) s))

weaker : (o : Option (ℕ × Text)) (m n : ℕ) → m ≤ n → Shorter o m → Shorter o n
weaker o m n h s = record { is = λ p e. let k = s.is p e in omega arith }

escape_short : (s : Text) → Shorter (escape s) (length s)
escape_short [] = nothing_short 0
escape_short (b ∷ s) = step (is_digit_of 8 b) (b == 120)
  where
    step : (x y : Bool) → Shorter (if x then numeric_escape 8 3 (b ∷ s) else if y then numeric_escape 16 2 s else byte_and_rest (simple_escape b) s) (length (b ∷ s))
    step true y = numeric_short 8 3 (b ∷ s)
    step false true = weaker (numeric_escape 16 2 s) (length s) (length (b ∷ s)) (omega arith) (numeric_short 16 2 s)
    step false false = simple_short (simple_escape b) s (length (b ∷ s)) (omega arith)

first_short : (b : ℕ) (s : Text) → Shorter (first_byte b s) (length s)
first_short b s = step (b == backslash)
  where
    step : (x : Bool) → Shorter (if x then escape s else Some (b, s)) (length s)
    step true = escape_short s
    step false = some_short b s (length s) (omega arith)

-- ---- going on

unescaped_fuel : (n m : ℕ) (s : Text) → length s ≤ n → length s ≤ m → unescaped_within n s ≡ unescaped_within m s
unescaped_fuel n m [] h k = refl
unescaped_fuel zero m (b ∷ s) h k = absurd (omega arith)
unescaped_fuel (suc n) zero (b ∷ s) h k = absurd (omega arith)
unescaped_fuel (suc n) (suc m) (b ∷ s) h k = step (first_byte b s) refl (λ r l. unescaped_fuel n m r l)
  where
    step : (o : Option (ℕ × Text)) → first_byte b s ≡ o → ((r : Text) → length r ≤ n → length r ≤ m → unescaped_within n r ≡ unescaped_within m r)
        → ◌≡◌ {A = Option Text} (elim o [ None ↦ None | Some p ↦ option_map (λ bytes. p.0 ∷ bytes) (unescaped_within n p.1) ]) (elim o [ None ↦ None | Some p ↦ option_map (λ bytes. p.0 ∷ bytes) (unescaped_within m p.1) ])
    step None e ih = refl
    step (Some p) e ih = let less = (first_short b s).is p e in ap (λ (o : Option Text). option_map (λ bytes. p.0 ∷ bytes) o) (ih p.1 (omega arith) (omega arith))

pub unescaped_on : (b : ℕ) (s : Text) (c : ℕ) (rest : Text) → first_byte b s ≡ Some (c, rest) → unescaped (b ∷ s) ≡ option_map (λ bytes. c ∷ bytes) (unescaped rest)
unescaped_on b s c rest e =
    let less = (first_short b s).is (c, rest) e in
    ap (λ (o : Option (ℕ × Text)). elim o as (λ _. Option Text) [ None ↦ None | Some p ↦ option_map (λ bytes. p.0 ∷ bytes) (unescaped_within (length s) p.1) ]) e
    ∙ ap (λ (o : Option Text). option_map (λ bytes. c ∷ bytes) o) (unescaped_fuel (length s) (length rest) rest less (omega arith))

pub unescaped_wrong : (b : ℕ) (s : Text) → first_byte b s ≡ None → unescaped (b ∷ s) ≡ None
unescaped_wrong b s e = ap (λ (o : Option (ℕ × Text)). elim o as (λ _. Option Text) [ None ↦ None | Some p ↦ option_map (λ bytes. p.0 ∷ bytes) (unescaped_within (length s) p.1) ]) e

pub escape_simple : (t : Text) (i : ℕ) → i < length t → is_digit_of 8 (get_or t i 0) ≡ false → (get_or t i 0 ≡ 120 → ⊥) → None ≡ simple_escape (get_or t i 0) → None ≡ escape (drop i t)
escape_simple t i h d x e =
    let k : (get_or t i 0 == 120) ≡ false = ne_eqb (get_or t i 0) 120 x in
    sym (ap escape (at_place t i h) ∙ rw (d, k) (ap (λ o. byte_and_rest o (drop (i + 1) t)) (sym e)))

pub bytes_next : (bytes : Text) (x : ℕ) (s rest : Text) → Some (x, rest) ≡ first_of s → behind_bytes (bytes ++ x ∷ []) (unescaped rest) ≡ behind_bytes bytes (unescaped s)
bytes_next bytes x [] rest e = absurd (cc)
bytes_next bytes x (b ∷ s) rest e = step (unescaped rest) ∙ ap (behind_bytes bytes) (sym (unescaped_on b s x rest (sym e)))
  where
    step : (o : Option Text) → behind_bytes (bytes ++ x ∷ []) o ≡ behind_bytes bytes (option_map (λ more. x ∷ more) o)
    step None = refl
    step (Some more) = ap (λ (w : Text). Some w) (append_assoc bytes (x ∷ []) more)

pub bytes_wrong : (bytes s : Text) (whole : Option Text) → None ≡ first_of s → 0 < length s → behind_bytes bytes (unescaped s) ≡ whole → None ≡ whole
bytes_wrong bytes [] whole e h same = absurd (omega arith)
bytes_wrong bytes (b ∷ s) whole e h same = ap (behind_bytes bytes) (sym (unescaped_wrong b s (sym e))) ∙ same

pub two_bytes : (s : Text) (x : ℕ) (rest : Text) → Some (x, rest) ≡ first_of s → 0 < length rest → None ≡ only_byte (unescaped s)
two_bytes [] x rest e h = absurd (cc)
two_bytes (b ∷ s) x [] e h = absurd (omega arith)
two_bytes (b ∷ s) x (d ∷ r) e h = sym (ap only_byte (unescaped_on b s x (d ∷ r) (sym e)) ∙ step (first_byte d r) refl)
  where
    last : (p : ℕ × Text) (o : Option Text) → only_byte (option_map (λ bytes. x ∷ bytes) (option_map (λ bytes. p.0 ∷ bytes) o)) ≡ None
    last p None = refl
    last p (Some bytes) = refl

    step : (o : Option (ℕ × Text)) → first_byte d r ≡ o → only_byte (option_map (λ bytes. x ∷ bytes) (unescaped (d ∷ r))) ≡ None
    step None k = ap (λ (o : Option Text). only_byte (option_map (λ bytes. x ∷ bytes) o)) (unescaped_wrong d r k)
    step (Some p) k = ap (λ (o : Option Text). only_byte (option_map (λ bytes. x ∷ bytes) o)) (unescaped_on d r p.0 p.1 k) ∙ last p (unescaped p.1)
