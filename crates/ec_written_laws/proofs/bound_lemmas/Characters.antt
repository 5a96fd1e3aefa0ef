-- What a character constant holds is a character.
use Rattle.std.proofs.Common.{◌≡◌, ℕ, zero, suc, ◌-◌, Bool, true, false, ◌&&◌, ◌||◌, List, [], ◌∷◌, length, take, drop, refl, Option, Some, None, arith}
use Rattle.std.specs.Prelude.{nat_lt, ◌==◌, ℤ, pos, neg_ℤ, option_map, if◌then◌else◌}
use Rattle.std.proofs.lemmas.Bool.Decides.{nat_tests}
use Rattle.ec_language.specs.Letters.{Text, backslash, is_empty, each}
use Rattle.ec_language.specs.Constants.{leading_digits, digits_value, simple_escape, byte_and_rest, numeric_escape, is_digit_of, escape, first_byte, unescaped_within, inside, string_value, signed_byte, only_byte, character_value}
use Rattle.ec_language.proofs.Classes.{neither}
use Rattle.ec_language.proofs.Ends.{both}
use Rattle.ec_writing_defs.specs.Shapes.{is_character, is_byte}
use Rattle.ec_written_laws.proofs.bound_lemmas.Rules.{join}

each_drop : (test : ℕ → Bool) (n : ℕ) (t : Text) → each test t ≡ true → each test (drop n t) ≡ true
each_drop test zero t h = h
each_drop test (suc n) [] h = h
each_drop test (suc n) (b ∷ t) h = each_drop test n t (both (test b) (each test t) h).1

each_take : (test : ℕ → Bool) (n : ℕ) (t : Text) → each test t ≡ true → each test (take n t) ≡ true
each_take test zero t h = refl
each_take test (suc n) [] h = refl
each_take test (suc n) (b ∷ t) h = let p = both (test b) (each test t) h in join p.0 (each_take test n t p.1)

-- one of two that both hold
pick : {A : Type 0} (P : A → Type 0) (b : Bool) (x y : A) → P x → P y → P (if b then x else y)
pick P true x y p q = p
pick P false x y p q = q

-- ---- escapes

abbrev IsOne : Option ℕ → Type 0
IsOne None = Unit {0}
IsOne (Some b) = is_byte b ≡ true

abbrev IsPair : Option (ℕ × Text) → Type 0
IsPair None = Unit {0}
IsPair (Some p) = (is_byte p.0 ≡ true) × (each is_byte p.1 ≡ true)

abbrev AreBytes : Option Text → Type 0
AreBytes None = Unit {0}
AreBytes (Some t) = each is_byte t ≡ true

simple_is : (b : ℕ) → is_byte b ≡ true → IsOne (simple_escape b)
simple_is b h =
    pick IsOne (b == 110) _ _ refl
    (pick IsOne (b == 116) _ _ refl
    (pick IsOne (b == 114) _ _ refl
    (pick IsOne (b == 97) _ _ refl
    (pick IsOne (b == 98) _ _ refl
    (pick IsOne (b == 102) _ _ refl
    (pick IsOne (b == 118) _ _ refl
    (pick IsOne (b == 92 || b == 39 || b == 34 || b == 63) (Some b) None h tt)))))))

numeric_is : (base most : ℕ) (text : Text) → each is_byte text ≡ true → IsPair (numeric_escape base most text)
numeric_is base most text h = go (is_empty (leading_digits base most text) || nat_lt 255 (digits_value base (leading_digits base most text))) refl
  where
    go : (b : Bool) → (is_empty (leading_digits base most text) || nat_lt 255 (digits_value base (leading_digits base most text))) ≡ b
        → IsPair (if b then None else Some (digits_value base (leading_digits base most text), drop (length (leading_digits base most text)) text))
    go true e = tt
    go false e = (byte (digits_value base (leading_digits base most text)) (neither (is_empty (leading_digits base most text)) (nat_lt 255 (digits_value base (leading_digits base most text))) e).1, each_drop is_byte (length (leading_digits base most text)) text h)
      where
        byte : (v : ℕ) → nat_lt 255 v ≡ false → is_byte v ≡ true
        byte v k = grind (arith, nat_tests)

byte_pair : (b : Option ℕ) (rest : Text) → IsOne b → each is_byte rest ≡ true → IsPair (byte_and_rest b rest)
byte_pair None rest h k = tt
byte_pair (Some b) rest h k = (h, k)

escape_is : (text : Text) → each is_byte text ≡ true → IsPair (escape text)
escape_is [] h = tt
escape_is (b ∷ bs) h =
    let p = both (is_byte b) (each is_byte bs) h in
    pick IsPair (is_digit_of 8 b) (numeric_escape 8 3 (b ∷ bs)) (if b == 120 then numeric_escape 16 2 bs else byte_and_rest (simple_escape b) bs) (numeric_is 8 3 (b ∷ bs) h)
    (pick IsPair (b == 120) (numeric_escape 16 2 bs) (byte_and_rest (simple_escape b) bs) (numeric_is 16 2 bs p.1) (byte_pair (simple_escape b) bs (simple_is b p.0) p.1))

first_is : (b : ℕ) (bs : Text) → is_byte b ≡ true → each is_byte bs ≡ true → IsPair (first_byte b bs)
first_is b bs h k = pick IsPair (b == backslash) (escape bs) (Some (b, bs)) (escape_is bs k) (h, k)

-- ---- texts in quotes

within_is : (most : ℕ) (text : Text) → each is_byte text ≡ true → AreBytes (unescaped_within most text)
within_is most [] h = refl
within_is zero (b ∷ bs) h = tt
within_is (suc most) (b ∷ bs) h = let p = both (is_byte b) (each is_byte bs) h in go (first_byte b bs) (first_is b bs p.0 p.1) (within_is most)
  where
    more : (b : ℕ) (t : Option Text) → is_byte b ≡ true → AreBytes t → AreBytes (option_map (λ bytes. b ∷ bytes) t)
    more b None h k = tt
    more b (Some t) h k = join h k

    go : (x : Option (ℕ × Text)) → IsPair x → ((t : Text) → each is_byte t ≡ true → AreBytes (unescaped_within most t)) → AreBytes (elim x [ None ↦ None | Some p ↦ option_map (λ bytes. p.0 ∷ bytes) (unescaped_within most p.1) ])
    go None h f = tt
    go (Some p) h f = more p.0 (unescaped_within most p.1) h.0 (f p.1 h.1)

inside_is : (text : Text) → each is_byte text ≡ true → each is_byte (inside text) ≡ true
inside_is text h = each_take is_byte (length text - 2) (drop 1 text) (each_drop is_byte 1 text h)

string_bytes : (text : Text) → each is_byte text ≡ true → AreBytes (string_value text)
string_bytes text h = within_is (length (inside text)) (inside text) (inside_is text h)

-- ---- characters

abbrev pub IsCharacter : Option ℤ → Type 0
IsCharacter None = Unit {0}
IsCharacter (Some c) = is_character c ≡ true

signed_is : (b : ℕ) → is_byte b ≡ true → is_character (signed_byte b) ≡ true
signed_is b h = go (nat_lt b 128) refl
  where
    low : (d : ℕ) → 256 - b ≡ suc d → nat_lt b 128 ≡ false → nat_lt d 128 ≡ true
    low d e k = grind (arith, nat_tests)

    some : (d : ℕ) → 256 - b ≡ d → nat_lt b 128 ≡ false → is_character (neg_ℤ (pos d)) ≡ true
    some zero e k = refl
    some (suc d) e k = low d e k

    go : (x : Bool) → nat_lt b 128 ≡ x → is_character (if x then pos b else neg_ℤ (pos (256 - b))) ≡ true
    go true e = e
    go false e = some (256 - b) refl e

only_is : (t : Option Text) → AreBytes t → IsCharacter (only_byte t)
only_is None h = tt
only_is (Some []) h = tt
only_is (Some (b ∷ [])) h = signed_is b (both (is_byte b) true h).0
only_is (Some (b ∷ c ∷ t)) h = tt

pub character_fits : (text : Text) → each is_byte text ≡ true → IsCharacter (character_value text)
character_fits text h = only_is (string_value text) (string_bytes text h)
