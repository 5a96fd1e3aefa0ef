-- Strings and characters are read back from their quotes.
use Rattle.std.proofs.Common.{◌≡◌, ℕ, zero, suc, ◌+◌, ◌-◌, ◌*◌, ◌/◌, ◌%◌, ◌≤◌, ◌<◌, Bool, true, false, ◌&&◌, [], ◌∷◌, ◌++◌, length, take, drop, refl, ap, sym, ◌∙◌, arith, Some, None, length-append, append_assoc}
use Rattle.std.specs.Prelude.{nat_lt, nat_le, ◌==◌, ◌||◌, ℤ, pos, negsuc, neg_ℤ, option_map, if◌then◌else◌}
use Rattle.std.proofs.lemmas.Bool.{false≢true}
use Rattle.std.proofs.lemmas.List.{take_at}
use Rattle.std.proofs.lemmas.Bool.Decides.{nat_tests}
use Rattle.ec_language.specs.Letters.{Text, backslash, is_digit, is_upper, is_lower, is_empty, each, is_not_newline}
use Rattle.ec_language.specs.CText.{closes_quote}
use Rattle.ec_language.specs.Constants.{digit_value, is_digit_of, leading_digits, digits_value, numeric_escape, escape, byte_and_rest, simple_escape, unescaped_within, inside, string_value, character_value, signed_byte, only_byte}
use Rattle.ec_language.proofs.Ends.{both}
use Rattle.ec_writing_defs.specs.Chunks.{is_plain, octal, quoted_bytes, quoted, byte_of}
use Rattle.ec_writing_defs.specs.Shapes.{is_byte, is_character}

-- ---- the quote closes

closes_more : (q b : ℕ) (u : Text) → (b == q) ≡ false → (b == backslash) ≡ false → is_not_newline b ≡ true → closes_quote q u ≡ true → closes_quote q (b ∷ u) ≡ true
closes_more q b [] x y w f = absurd (false≢true f)
closes_more q b (d ∷ u) x y w f = rw (x, y, w, closes_quote) f

record Octal (b : ℕ) : Type 0 where
  high : b / 64 < 8
  middle : (b / 8) % 8 < 8
  low : b % 8 < 8
  whole : ((0 * 8 + b / 64) * 8 + (b / 8) % 8) * 8 + b % 8 ≡ b

octal_of : (b : ℕ) → b < 256 → Octal b
octal_of b h = record { high = omega arith; middle = omega arith; low = omega arith; whole = omega arith }

octal_closes : (q b : ℕ) (u : Text) → q < 48 → Octal b → closes_quote q u ≡ true → closes_quote q (octal b ++ u) ≡ true
octal_closes q b u h o f =
    let a : (92 == q) ≡ false = grind (arith, nat_tests) in
    let n : is_not_newline (48 + b / 64) ≡ true = grind (arith, nat_tests) in
    let m = digit (48 + (b / 8) % 8) (omega arith) (omega (arith, o.middle)) in
    let l = digit (48 + b % 8) (omega arith) (omega (arith, o.low)) in
    (λ i. elim (a i) [ true ↦ false | false ↦ n i && closes_quote q ((48 + (b / 8) % 8) ∷ (48 + b % 8) ∷ u) ])
    ∙ closes_more q (48 + (b / 8) % 8) ((48 + b % 8) ∷ u) m.0 m.1 m.2 (closes_more q (48 + b % 8) u l.0 l.1 l.2 f)
  where
    digit : (d : ℕ) → 48 ≤ d → d < 56 → ((d == q) ≡ false) × ((d == backslash) ≡ false) × (is_not_newline d ≡ true)
    digit d x y = (grind (arith, nat_tests), grind (arith, nat_tests), grind (arith, nat_tests))

plain_is : (q b : ℕ) → is_plain q b ≡ true → ((b == q) ≡ false) × ((b == backslash) ≡ false) × (is_not_newline b ≡ true)
plain_is q b h = go (b == q) (b == backslash) refl refl h
  where
    go : (x y : Bool) → (b == q) ≡ x → (b == backslash) ≡ y → elim (x || y) [ true ↦ false | false ↦ nat_le 32 b && nat_le b 126 ] ≡ true → ((b == q) ≡ false) × ((b == backslash) ≡ false) × (is_not_newline b ≡ true)
    go true y e f k = absurd (false≢true k)
    go false true e f k = absurd (false≢true k)
    go false false e f k = (e, f, (let t = both (nat_le 32 b) (nat_le b 126) k in let s = t.0 in grind (arith, nat_tests)))

pub quote_closes : (q : ℕ) (s : Text) → q < 48 → each is_byte s ≡ true → closes_quote q (quoted_bytes q s) ≡ true
quote_closes q [] h e = let a : (q == q) ≡ true = grind (arith, nat_tests) in a
quote_closes q (b ∷ s) h e = let k = both (is_byte b) (each is_byte s) e in go (is_plain q b) refl (let l = k.0 in grind (arith, nat_tests)) (quote_closes q s h k.1)
  where
    go : (t : Bool) → is_plain q b ≡ t → b < 256 → closes_quote q (quoted_bytes q s) ≡ true → closes_quote q ((elim t [ true ↦ b ∷ [] | false ↦ octal b ]) ++ quoted_bytes q s) ≡ true
    go true p l f = let g = plain_is q b p in closes_more q b (quoted_bytes q s) g.0 g.1 g.2 f
    go false p l f = octal_closes q b (quoted_bytes q s) h (octal_of b l) f

-- ---- its bytes

abbrev inner : ℕ → Text → Text
inner q [] = []
inner q (b ∷ bs) = (elim (is_plain q b) [ true ↦ b ∷ [] | false ↦ octal b ]) ++ inner q bs

whole : (q : ℕ) (s : Text) → quoted_bytes q s ≡ inner q s ++ q ∷ []
whole q [] = refl
whole q (b ∷ bs) = ap (λ t. (elim (is_plain q b) [ true ↦ b ∷ [] | false ↦ octal b ]) ++ t) (whole q bs) ∙ sym (append_assoc (elim (is_plain q b) [ true ↦ b ∷ [] | false ↦ octal b ]) (inner q bs) (q ∷ []))

inside_is : (q : ℕ) (s : Text) → inside (quoted q s) ≡ inner q s
inside_is q s =
    let n : suc (length (quoted_bytes q s)) - 2 ≡ length (inner q s) = omega (arith, ap length (whole q s), length-append (inner q s) (q ∷ [])) in
    (λ i. take (n i) (whole q s i)) ∙ take_at (inner q s) (q ∷ []) (length (inner q s)) refl

digit_8 : (x : ℕ) → x < 8 → (is_digit_of 8 (48 + x) ≡ true) × (digit_value (48 + x) ≡ x)
digit_8 x h =
    let d : is_digit (48 + x) ≡ true = grind (arith, nat_tests) in
    let e : 48 + x - 48 ≡ x = omega arith in
    let v : digit_value (48 + x) ≡ x = (λ i. if d i then 48 + x - 48 else if is_upper (48 + x) then 48 + x - 55 else 48 + x - 87) ∙ e in
    let l : nat_lt x 8 ≡ true = grind (arith, nat_tests) in
    ((λ i. (d i || is_upper (48 + x) || is_lower (48 + x)) && nat_lt (v i) 8) ∙ l, v)

escape_back : (b : ℕ) (rest : Text) → b < 256 → escape ((48 + b / 64) ∷ (48 + (b / 8) % 8) ∷ (48 + b % 8) ∷ rest) ≡ Some (b, rest)
escape_back b rest h =
    let o = octal_of b h in
    let x = digit_8 (b / 64) o.high in
    let y = digit_8 ((b / 8) % 8) o.middle in
    let z = digit_8 (b % 8) o.low in
    let l : leading_digits 8 3 ((48 + b / 64) ∷ (48 + (b / 8) % 8) ∷ (48 + b % 8) ∷ rest) ≡ (48 + b / 64) ∷ (48 + (b / 8) % 8) ∷ (48 + b % 8) ∷ [] =
    (λ i. elim (x.0 i) [ true ↦ (48 + b / 64) ∷ elim (y.0 i) [ true ↦ (48 + (b / 8) % 8) ∷ elim (z.0 i) [ true ↦ (48 + b % 8) ∷ [] | false ↦ [] ] | false ↦ [] ] | false ↦ [] ]) in
    let v : digits_value 8 ((48 + b / 64) ∷ (48 + (b / 8) % 8) ∷ (48 + b % 8) ∷ []) ≡ b = (λ i. ((0 * 8 + x.1 i) * 8 + y.1 i) * 8 + z.1 i) ∙ o.whole in
    let s : nat_lt 255 b ≡ false = grind (arith, nat_tests) in
    (λ i. if x.0 i then numeric_escape 8 3 ((48 + b / 64) ∷ (48 + (b / 8) % 8) ∷ (48 + b % 8) ∷ rest) else if (48 + b / 64) == 120 then numeric_escape 16 2 ((48 + (b / 8) % 8) ∷ (48 + b % 8) ∷ rest) else byte_and_rest (simple_escape (48 + b / 64)) ((48 + (b / 8) % 8) ∷ (48 + b % 8) ∷ rest))
    ∙ (λ i. if is_empty (l i) || nat_lt 255 (digits_value 8 (l i)) then None else Some (digits_value 8 (l i), drop (length (l i)) ((48 + b / 64) ∷ (48 + (b / 8) % 8) ∷ (48 + b % 8) ∷ rest)))
    ∙ (λ i. if nat_lt 255 (v i) then None else Some (v i, rest))
    ∙ (λ i. if s i then None else Some (b, rest))

unescaped_back : (q k : ℕ) (s : Text) → length (inner q s) ≤ k → each is_byte s ≡ true → unescaped_within k (inner q s) ≡ Some s
unescaped_back q zero [] le e = refl
unescaped_back q (suc k) [] le e = refl
unescaped_back q k (b ∷ s) le e = let j = both (is_byte b) (each is_byte s) e in go k (is_plain q b) refl (let l = j.0 in grind (arith, nat_tests)) le (λ m l. unescaped_back q m s l j.1)
  where
    go : (k : ℕ) (t : Bool) → is_plain q b ≡ t → b < 256 → length ((elim t [ true ↦ b ∷ [] | false ↦ octal b ]) ++ inner q s) ≤ k → ((m : ℕ) → length (inner q s) ≤ m → unescaped_within m (inner q s) ≡ Some s)
        → unescaped_within k ((elim t [ true ↦ b ∷ [] | false ↦ octal b ]) ++ inner q s) ≡ Some (b ∷ s)
    go zero true p l le again = absurd (omega arith)
    go zero false p l le again = absurd (omega arith)
    go (suc k) true p l le again = (λ i. elim (if (plain_is q b p).1 i then escape (inner q s) else Some (b, inner q s)) [ None ↦ None | Some x ↦ option_map (λ bytes. x.0 ∷ bytes) (unescaped_within k x.1) ])
        ∙ ap (option_map (λ bytes. b ∷ bytes)) (again k (omega arith))
    go (suc k) false p l le again = (λ i. elim (escape_back b (inner q s) l i) [ None ↦ None | Some x ↦ option_map (λ bytes. x.0 ∷ bytes) (unescaped_within k x.1) ])
        ∙ ap (option_map (λ bytes. b ∷ bytes)) (again k (omega arith))

pub string_back : (q : ℕ) (s : Text) → each is_byte s ≡ true → string_value (quoted q s) ≡ Some s
string_back q s e = ap (λ t. unescaped_within (length t) t) (inside_is q s) ∙ unescaped_back q (length (inner q s)) s (omega arith) e

pub character_byte : (c : ℤ) → is_character c ≡ true → byte_of c < 256
character_byte (pos n) h = grind (arith, nat_tests)
character_byte (negsuc n) h = omega arith

signed_back : (c : ℤ) → is_character c ≡ true → signed_byte (byte_of c) ≡ c
signed_back (pos n) h = λ i. if h i then pos n else neg_ℤ (pos (256 - n))
signed_back (negsuc n) h =
    let a : nat_lt (255 - n) 128 ≡ false = grind (arith, nat_tests) in
    let b : 256 - (255 - n) ≡ suc n = less n h in
    (λ i. if a i then pos (255 - n) else neg_ℤ (pos (b i)))
  where
    less : (n : ℕ) → nat_lt n 128 ≡ true → 256 - (255 - n) ≡ suc n
    less n h = let l : n < 128 = grind (arith, nat_tests) in omega arith

pub one_byte : (c : ℤ) → is_character c ≡ true → each is_byte (byte_of c ∷ []) ≡ true
one_byte c h = let l = character_byte c h in let t : is_byte (byte_of c) ≡ true = grind (arith, nat_tests) in λ i. t i && true

pub character_back : (c : ℤ) → is_character c ≡ true → character_value (quoted 39 (byte_of c ∷ [])) ≡ Some c
character_back c h = ap only_byte (string_back 39 (byte_of c ∷ []) (one_byte c h)) ∙ ap (λ x. Some x) (signed_back c h)
