-- What the checks read in a format is what the meaning takes it apart into.
use Rattle.std.proofs.Common.{◌≡◌, ◌∙◌, ◌≤◌, ◌+◌, ℕ, zero, suc, List, [], ◌∷◌, ◌++◌, length, map, drop, Option, Some, None, Bool, true, false, refl, sym, ap, subst, arith}
use Rattle.std.specs.Prelude.{◌&&◌, ◌||◌, ◌==◌, ◌*◌, nat_le, option_map, option_and_then, if◌then◌else◌}
use Rattle.std.proofs.lemmas.Bool.{leb-true, le-leb, eqb-true, false≢true}
use lib.Dec.{eqb-suc-zero, eqb-suc-suc}
use Rattle.ec_language.specs.Letters.{Text}
use Rattle.ec_typing_defs.specs.Formats.{NeedData, exact_int, short_integer, long_integer, text_need, Needs, front_by, behind_by, is_integer_letter, width_part, digits_part, precision_part, integer_part, text_part, plain_letter, long_letter, letter_part, after, precise_part, behind_width, full_conversion, conversion, needs_within}
use Rattle.ec_meaning_defs.specs.functions.Formats.{Amount, absent, given, from_argument, Style, signed_decimal, unsigned_decimal, hexadecimal, capital_hexadecimal, octal, Field, Part, plain, integer, character, text, front_while, is_digit, is_flag, with_digit, digits_amount, amount_at, is_width, precision_at, wide_at, style_of, is_absent, text_directive, lettered, with_letter, field_of, with_width, directive_at, before_parts, parts_within}
use Rattle.ec_sound_defs.specs.Sorts.{Sort, number_sort, amount_needs, part_needs, parts_need}
use Rattle.ec_sound_form_laws.specs.Formats.{need_sort, FormatsAreTakenApart}

-- ---- tests and lists

no : {C : Type 0} → false ≡ true → C
no e = absurd (false≢true e)

none_no : {A C : Type 0} {a : A} → None ≡ Some a → C
none_no e = absurd (cc)

some_is : {A : Type 0} {a b : A} → Some a ≡ Some b → a ≡ b
some_is {A} {a} e = λ i. value_or (e i)
  where
    value_or : Option A → A
    value_or None = a
    value_or (Some x) = x

-- the value that a choice was made by
record Chosen {A B : Type 0} (o : Option A) (f : A → Option B) (b : B) : Type 0 where
  value : A
  is : o ≡ Some value
  gives : f value ≡ Some b

chosen : {A B : Type 0} (o : Option A) (f : A → Option B) (b : B) → option_and_then f o ≡ Some b → Chosen o f b
chosen None f b e = none_no e
chosen (Some a) f b e = record { value = a; is = refl; gives = e }

front_same : (test : ℕ → Bool) (bs : Text) → front_while test bs ≡ front_by test bs
front_same test [] = refl
front_same test (b ∷ bs) = go (test b) (front_same test bs)
  where
    go : (t : Bool) → front_while test bs ≡ front_by test bs → (elim t [ true ↦ b ∷ front_while test bs | false ↦ [] ]) ≡ (if t then b ∷ front_by test bs else [])
    go true e = λ i. b ∷ e i
    go false e = refl

behind_same : (test : ℕ → Bool) (bs : Text) → drop (length (front_while test bs)) bs ≡ behind_by test bs
behind_same test [] = refl
behind_same test (b ∷ bs) = go (test b) (behind_same test bs)
  where
    go : (t : Bool) → drop (length (front_while test bs)) bs ≡ behind_by test bs → drop (length {A = ℕ} (elim t [ true ↦ b ∷ front_while test bs | false ↦ [] ])) (b ∷ bs) ≡ (if t then behind_by test bs else b ∷ bs)
    go true e = e
    go false e = refl

-- ---- amounts

abbrev AllDigits : List ℕ → Type 0
AllDigits [] = Unit {0}
AllDigits (d ∷ ds) = (d ≤ 57) × AllDigits ds

digits_front : (bs : Text) → AllDigits (front_while is_digit bs)
digits_front [] = tt
digits_front (b ∷ bs) = go (is_digit b) refl (digits_front bs)
  where
    right : (s t : Bool) → (s && t) ≡ true → t ≡ true
    right true t e = e
    right false t e = no e

    go : (t : Bool) → is_digit b ≡ t → AllDigits (front_while is_digit bs) → AllDigits (elim t [ true ↦ b ∷ front_while is_digit bs | false ↦ [] ])
    go true e h = (leb-true b 57 (right (nat_le 48 b) (nat_le b 57) e), h)
    go false e h = tt

digit_more : (n m d : ℕ) → n ≤ m → d ≤ 57 → with_digit n d ≤ m * 10 + 9
digit_more n m d l h = omega (arith, l, h)

-- at most three digits are a width
few_digits : (ds : List ℕ) → AllDigits ds → length ds ≤ 3 → is_width (digits_amount ds) ≡ true
few_digits [] h l = refl
few_digits (d ∷ []) h l =
    let a = digit_more 0 0 d (omega arith) h.0 in
    le-leb (with_digit 0 d) 999 (omega (arith, a))
few_digits (d ∷ e ∷ []) h l =
    let a = digit_more 0 0 d (omega arith) h.0 in
    let b = digit_more (with_digit 0 d) 9 e (omega (arith, a)) h.1.0 in
    le-leb (with_digit (with_digit 0 d) e) 999 (omega (arith, b))
few_digits (d ∷ e ∷ f ∷ []) h l =
    let a = digit_more 0 0 d (omega arith) h.0 in
    let b = digit_more (with_digit 0 d) 9 e (omega (arith, a)) h.1.0 in
    let c = digit_more (with_digit (with_digit 0 d) e) 99 f (omega (arith, b)) h.1.1.0 in
    le-leb (with_digit (with_digit (with_digit 0 d) e) f) 999 (omega (arith, c))
few_digits (d ∷ e ∷ f ∷ g ∷ ds) h l = absurd (omega (arith, l))

digits_need : (ds : List ℕ) (rest : List Sort) → amount_needs (digits_amount ds) rest ≡ rest
digits_need [] rest = refl
digits_need (d ∷ ds) rest = refl

-- an amount at the front of a text, and what it needs
record IsAmount (test : Amount → Bool) (bs : Text) (p : Needs × Text) : Type 0 where
  amount : Amount
  is : amount_at bs ≡ (amount, p.1)
  fits : test amount ≡ true
  needs : (rest : List Sort) → amount_needs amount rest ≡ map need_sort p.0 ++ rest

by_star : (test : Amount → Bool) → test from_argument ≡ true → (b : ℕ) (bs : Text) → (b == 42) ≡ true → IsAmount test (b ∷ bs) (exact_int ∷ [], bs)
by_star test t b bs e = record {
  amount = from_argument;
  is = subst (λ x. amount_at (x ∷ bs) ≡ (from_argument, bs)) (sym (eqb-true b 42 e)) refl;
  fits = t;
  needs = λ rest. refl;
}

by_digits : (test : Amount → Bool) (b : ℕ) (bs : Text) → (b == 42) ≡ false → test (digits_amount (front_while is_digit (b ∷ bs))) ≡ true → IsAmount test (b ∷ bs) ([], behind_by is_digit (b ∷ bs))
by_digits test b bs e t = record {
  amount = digits_amount (front_while is_digit (b ∷ bs));
  is = chosen_amount (b == 42) e;
  fits = t;
  needs = λ rest. digits_need (front_while is_digit (b ∷ bs)) rest;
}
  where
    chosen_amount : (s : Bool) → s ≡ false → ◌≡◌ {A = Amount × Text} (elim s [ true ↦ (from_argument, bs) | false ↦ (digits_amount (front_while is_digit (b ∷ bs)), drop (length (front_while is_digit (b ∷ bs))) (b ∷ bs)) ])
        (digits_amount (front_while is_digit (b ∷ bs)), behind_by is_digit (b ∷ bs))
    chosen_amount true e = no (sym e)
    chosen_amount false e = λ i. (digits_amount (front_while is_digit (b ∷ bs)), behind_same is_digit (b ∷ bs) i)

width_is : (bs : Text) (p : Needs × Text) → width_part bs ≡ Some p → IsAmount is_width bs p
width_is [] p e = subst (IsAmount is_width []) (some_is e) (record { amount = absent; is = refl; fits = refl; needs = λ rest. refl })
width_is (b ∷ bs) p e = go (b == 42) refl e
  where
    by_count : (t : Bool) → nat_le (length (front_by is_digit (b ∷ bs))) 3 ≡ t → (b == 42) ≡ false → digits_part t (b ∷ bs) ≡ Some p → IsAmount is_width (b ∷ bs) p
    by_count true l s h = subst (IsAmount is_width (b ∷ bs)) (some_is h) (by_digits is_width b bs s
        (few_digits (front_while is_digit (b ∷ bs)) (digits_front (b ∷ bs))
        (subst (λ ds. length ds ≤ 3) (sym (front_same is_digit (b ∷ bs))) (leb-true (length (front_by is_digit (b ∷ bs))) 3 l))))
    by_count false l s h = none_no h

    go : (t : Bool) → (b == 42) ≡ t → (elim (if t then Some bs else None) [ Some rest ↦ Some (exact_int ∷ [], rest) | None ↦ digits_part (nat_le (length (front_by is_digit (b ∷ bs))) 3) (b ∷ bs) ]) ≡ Some p
        → IsAmount is_width (b ∷ bs) p
    go true s h = subst (IsAmount is_width (b ∷ bs)) (some_is h) (by_star is_width refl b bs s)
    go false s h = by_count (nat_le (length (front_by is_digit (b ∷ bs))) 3) refl s h

-- an amount that is there
abbrev is_there : Amount → Bool
is_there absent = false
is_there (given n) = true
is_there from_argument = true

some_digits : (ds : List ℕ) → nat_le 1 (length ds) ≡ true → is_there (digits_amount ds) ≡ true
some_digits [] l = absurd (omega (arith, leb-true 1 0 l))
some_digits (d ∷ ds) l = refl

precision_is : (bs : Text) (p : Needs × Text) → precision_part bs ≡ Some p → IsAmount is_there bs p
precision_is [] p e = none_no e
precision_is (b ∷ bs) p e = go (b == 42) refl e
  where
    by_count : (t : Bool) → nat_le 1 (length (front_by is_digit (b ∷ bs))) ≡ t → (b == 42) ≡ false → digits_part t (b ∷ bs) ≡ Some p → IsAmount is_there (b ∷ bs) p
    by_count true l s h = subst (IsAmount is_there (b ∷ bs)) (some_is h) (by_digits is_there b bs s
        (some_digits (front_while is_digit (b ∷ bs)) (subst (λ ds. nat_le 1 (length ds) ≡ true) (sym (front_same is_digit (b ∷ bs))) l)))
    by_count false l s h = none_no h

    go : (t : Bool) → (b == 42) ≡ t → (elim (if t then Some bs else None) [ Some rest ↦ Some (exact_int ∷ [], rest) | None ↦ digits_part (nat_le 1 (length (front_by is_digit (b ∷ bs)))) (b ∷ bs) ]) ≡ Some p
        → IsAmount is_there (b ∷ bs) p
    go true s h = subst (IsAmount is_there (b ∷ bs)) (some_is h) (by_star is_there refl b bs s)
    go false s h = by_count (nat_le 1 (length (front_by is_digit (b ∷ bs)))) refl s h

-- ---- letters

-- the letter gives a part that needs this behind what its field needs
record IsLetter (field : Field) (precision : Amount) (wide : Bool) (b : ℕ) (need : NeedData) : Type 0 where
  part : Part
  is : lettered field precision wide b ≡ Some part
  needs : (rest : List Sort) → part_needs part rest ≡ amount_needs field.width (amount_needs precision (need_sort need ∷ rest))

record HasStyle (b : ℕ) : Type 0 where
  style : Style
  is : style_of b ≡ Some style

style_is : (b : ℕ) → is_integer_letter b ≡ true → HasStyle b
style_is b e = let s = go (b == 100 || b == 105) (b == 117) (b == 120) (b == 88) (b == 111) e in record { style = s.0; is = s.1 }
  where
    go : (q r s t u : Bool) → (q || r || s || t || u) ≡ true
        → (style : Style) × ((elim q [ true ↦ Some signed_decimal | false ↦ elim r [ true ↦ Some unsigned_decimal | false ↦ elim s [ true ↦ Some hexadecimal | false ↦ elim t [ true ↦ Some capital_hexadecimal | false ↦ elim u [ true ↦ Some octal | false ↦ None ] ] ] ] ]) ≡ Some style)
    go true r s t u e = (signed_decimal, refl)
    go false true s t u e = (unsigned_decimal, refl)
    go false false true t u e = (hexadecimal, refl)
    go false false false true u e = (capital_hexadecimal, refl)
    go false false false false true e = (octal, refl)
    go false false false false false e = no e

-- an integer's, of either size
abbrev is_number_need : NeedData → Bool
is_number_need exact_int = true
is_number_need short_integer = true
is_number_need long_integer = true
is_number_need text_need = false

number_is : (need : NeedData) → is_number_need need ≡ true → need_sort need ≡ number_sort
number_is exact_int e = refl
number_is short_integer e = refl
number_is long_integer e = refl
number_is text_need e = no e

integer_is : (field : Field) (wide : Bool) (b : ℕ) (need : NeedData) → is_number_need need ≡ true → is_integer_letter b ≡ true → IsLetter field absent wide b need
integer_is field wide b need n e =
    let s = style_is b e in
    record {
      part = integer field wide s.style;
      is = subst (λ o. (elim o [
        | Some style ↦ elim (is_absent absent) [ true ↦ Some (integer field wide style) | false ↦ None ]
        | None ↦ elim wide [ true ↦ None | false ↦ text_directive field absent b ]
      ]) ≡ Some (integer field wide s.style)) (sym s.is) refl;
      needs = λ rest. ap (λ k. amount_needs field.width (k ∷ rest)) (sym (number_is need n));
    }

character_is : (field : Field) (b : ℕ) → (b == 99) ≡ true → IsLetter field absent false b exact_int
character_is field b e = record {
  part = character field;
  is = subst (λ x. lettered field absent false x ≡ Some (character field)) (sym (eqb-true b 99 e)) refl;
  needs = λ rest. refl;
}

text_is : (field : Field) (precision : Amount) (b : ℕ) → (b == 115) ≡ true → IsLetter field precision false b text_need
text_is field precision b e = record {
  part = text field precision;
  is = subst (λ x. lettered field precision false x ≡ Some (text field precision)) (sym (eqb-true b 115 e)) refl;
  needs = λ rest. refl;
}

-- the letter at the front of a text gives a part, and this stands behind it
record IsEnd (field : Field) (precision : Amount) (wide : Bool) (bs : Text) (p : Needs × Text) : Type 0 where
  part : Part
  is : with_letter field precision (wide, bs) ≡ Some (part, p.1)
  needs : (rest : List Sort) → part_needs part rest ≡ amount_needs field.width (amount_needs precision (map need_sort p.0 ++ rest))

ended : (field : Field) (precision : Amount) (wide : Bool) (b : ℕ) (bs : Text) (need : NeedData) → IsLetter field precision wide b need → IsEnd field precision wide (b ∷ bs) (need ∷ [], bs)
ended field precision wide b bs need l = record {
  part = l.part;
  is = ap (λ o. option_map (λ part. (part, bs)) o) l.is;
  needs = l.needs;
}

integer_ends : (field : Field) (wide : Bool) (need : NeedData) → is_number_need need ≡ true → (bs : Text) (p : Needs × Text) → integer_part need bs ≡ Some p → IsEnd field absent wide bs p
integer_ends field wide need n [] p e = none_no e
integer_ends field wide need n (b ∷ bs) p e = go (is_integer_letter b) refl e
  where
    go : (t : Bool) → is_integer_letter b ≡ t → (if t then Some (need ∷ [], bs) else None) ≡ Some p → IsEnd field absent wide (b ∷ bs) p
    go true s h = subst (IsEnd field absent wide (b ∷ bs)) (some_is h) (ended field absent wide b bs need (integer_is field wide b need n s))
    go false s h = none_no h

text_ends : (field : Field) (precision : Amount) (bs : Text) (p : Needs × Text) → text_part bs ≡ Some p → IsEnd field precision false bs p
text_ends field precision [] p e = none_no e
text_ends field precision (b ∷ bs) p e = go (b == 115) refl e
  where
    go : (t : Bool) → (b == 115) ≡ t → option_map (λ rest. (text_need ∷ [], rest)) (if t then Some bs else None) ≡ Some p → IsEnd field precision false (b ∷ bs) p
    go true s h = subst (IsEnd field precision false (b ∷ bs)) (some_is h) (ended field precision false b bs text_need (text_is field precision b s))
    go false s h = none_no h

plain_ends : (field : Field) (bs : Text) (p : Needs × Text) → plain_letter bs ≡ Some p → IsEnd field absent false bs p
plain_ends field [] p e = none_no e
plain_ends field (b ∷ bs) p e = go (b == 99) refl e
  where
    other : (o : Option (Needs × Text)) → text_part (b ∷ bs) ≡ o → (elim o [ Some q ↦ Some q | None ↦ integer_part short_integer (b ∷ bs) ]) ≡ Some p → IsEnd field absent false (b ∷ bs) p
    other (Some q) s h = text_ends field absent (b ∷ bs) p (s ∙ h)
    other None s h = integer_ends field false short_integer refl (b ∷ bs) p h

    go : (t : Bool) → (b == 99) ≡ t → (elim (if t then Some bs else None) [ Some rest ↦ Some (exact_int ∷ [], rest) | None ↦ elim (text_part (b ∷ bs)) [ Some q ↦ Some q | None ↦ integer_part short_integer (b ∷ bs) ] ]) ≡ Some p
        → IsEnd field absent false (b ∷ bs) p
    go true s h = subst (IsEnd field absent false (b ∷ bs)) (some_is h) (ended field absent false b bs exact_int (character_is field b s))
    go false s h = other (text_part (b ∷ bs)) refl h

-- `l` and `ll` too
record IsEndAt (field : Field) (precision : Amount) (bs : Text) (p : Needs × Text) : Type 0 where
  part : Part
  is : with_letter field precision (wide_at bs) ≡ Some (part, p.1)
  needs : (rest : List Sort) → part_needs part rest ≡ amount_needs field.width (amount_needs precision (map need_sort p.0 ++ rest))

at_end : (field : Field) (precision : Amount) (bs : Text) (p : Needs × Text) (wide : Bool) (rest : Text) → wide_at bs ≡ (wide, rest) → IsEnd field precision wide rest p → IsEndAt field precision bs p
at_end field precision bs p wide rest e h = record { part = h.part; is = ap (λ q. with_letter field precision q) e ∙ h.is; needs = h.needs }

letter_ends : (field : Field) (bs : Text) (p : Needs × Text) → letter_part bs ≡ Some p → IsEndAt field absent bs p
letter_ends field [] p e = none_no e
letter_ends field (b ∷ []) p e = go (b == 108) refl e
  where
    go : (t : Bool) → (b == 108) ≡ t → (elim (if t then Some [] else None) [ Some rest ↦ long_letter rest | None ↦ plain_letter (b ∷ []) ]) ≡ Some p → IsEndAt field absent (b ∷ []) p
    go true s h = none_no h
    go false s h = at_end field absent (b ∷ []) p false (b ∷ []) (ap (λ t. elim t [ true ↦ (true, []) | false ↦ (false, b ∷ []) ]) s) (plain_ends field (b ∷ []) p h)
letter_ends field (b ∷ c ∷ bs) p e = go (b == 108) refl e
  where
    wide_by : Bool → Bool → Bool × Text
    wide_by s t = elim s [ true ↦ elim t [ true ↦ (true, bs) | false ↦ (true, c ∷ bs) ] | false ↦ (false, b ∷ c ∷ bs) ]

    long : (t : Bool) → (c == 108) ≡ t → (b == 108) ≡ true → (elim (if t then Some bs else None) [ Some rest ↦ integer_part long_integer rest | None ↦ integer_part long_integer (c ∷ bs) ]) ≡ Some p → IsEndAt field absent (b ∷ c ∷ bs) p
    long true l s h = at_end field absent (b ∷ c ∷ bs) p true bs (λ i. wide_by (s i) (l i)) (integer_ends field true long_integer refl bs p h)
    long false l s h = at_end field absent (b ∷ c ∷ bs) p true (c ∷ bs) (λ i. wide_by (s i) (l i)) (integer_ends field true long_integer refl (c ∷ bs) p h)

    go : (t : Bool) → (b == 108) ≡ t → (elim (if t then Some (c ∷ bs) else None) [ Some rest ↦ long_letter rest | None ↦ plain_letter (b ∷ c ∷ bs) ]) ≡ Some p → IsEndAt field absent (b ∷ c ∷ bs) p
    go true s h = long (c == 108) refl s h
    go false s h = at_end field absent (b ∷ c ∷ bs) p false (b ∷ c ∷ bs) (λ i. wide_by (s i) (c == 108)) (plain_ends field (b ∷ c ∷ bs) p h)

-- a text behind a precision: no `l` stands before `s`
text_ends_at : (field : Field) (precision : Amount) (bs : Text) (p : Needs × Text) → text_part bs ≡ Some p → IsEndAt field precision bs p
text_ends_at field precision [] p e = none_no e
text_ends_at field precision (b ∷ bs) p e = go (b == 115) refl e
  where
    not_wide : (rest : Text) → wide_at (115 ∷ rest) ≡ (false, 115 ∷ rest)
    not_wide [] = refl
    not_wide (c ∷ rest) = refl

    go : (t : Bool) → (b == 115) ≡ t → option_map (λ rest. (text_need ∷ [], rest)) (if t then Some bs else None) ≡ Some p → IsEndAt field precision (b ∷ bs) p
    go true s h = at_end field precision (b ∷ bs) p false (b ∷ bs) (subst (λ x. wide_at (x ∷ bs) ≡ (false, x ∷ bs)) (sym (eqb-true b 115 s)) (not_wide bs)) (text_ends field precision (b ∷ bs) p e)
    go false s h = none_no h

-- ---- directives

-- what stands behind a width
record IsRest (field : Field) (bs : Text) (p : Needs × Text) : Type 0 where
  part : Part
  is : option_and_then (λ q. with_letter field q.0 (wide_at q.1)) (precision_at bs) ≡ Some (part, p.1)
  needs : (rest : List Sort) → part_needs part rest ≡ amount_needs field.width (map need_sort p.0 ++ rest)

precision_there : (bs rest : Text) (amount : Amount) → amount_at bs ≡ (amount, rest) → is_there amount ≡ true → precision_at (46 ∷ bs) ≡ Some (amount, rest)
precision_there bs rest absent e t = no t
precision_there bs rest (given n) e t = rw e refl
precision_there bs rest from_argument e t = rw e refl

joined : (before : Needs) (q : Needs × Text) (rest : List Sort) → map need_sort (before ++ q.0) ++ rest ≡ map need_sort before ++ (map need_sort q.0 ++ rest)
joined [] q rest = refl
joined (n ∷ ns) q rest = ap (λ ks. need_sort n ∷ ks) (joined ns q rest)

-- the part behind others
record IsAfter (before : Needs) (o : Option (Needs × Text)) (p : Needs × Text) : Type 0 where
  value : Needs × Text
  is : o ≡ Some value
  gives : (before ++ value.0, value.1) ≡ p

is_after : (before : Needs) (o : Option (Needs × Text)) (p : Needs × Text) → after before o ≡ Some p → IsAfter before o p
is_after before None p e = none_no e
is_after before (Some q) p e = record { value = q; is = refl; gives = some_is e }

precise_rest : (field : Field) (bs : Text) (p : Needs × Text) → precise_part bs ≡ Some p → IsRest field (46 ∷ bs) p
precise_rest field bs p e =
    let c = chosen (precision_part bs) (λ q. after q.0 (text_part q.1)) p e in
    let a = precision_is bs c.value c.is in
    let f = is_after c.value.0 (text_part c.value.1) p c.gives in
    let t = text_ends_at field a.amount c.value.1 f.value f.is in
    subst (IsRest field (46 ∷ bs)) f.gives (record {
      part = t.part;
      is = ap (λ o. option_and_then (λ q. with_letter field q.0 (wide_at q.1)) o) (precision_there bs c.value.1 a.amount a.is a.fits) ∙ t.is;
      needs = λ rest. t.needs rest ∙ ap (λ ks. amount_needs field.width ks) (a.needs (map need_sort f.value.0 ++ rest) ∙ sym (joined c.value.0 f.value rest));
    })

letter_rest : (field : Field) (bs : Text) (p : Needs × Text) → precision_at bs ≡ Some (absent, bs) → letter_part bs ≡ Some p → IsRest field bs p
letter_rest field bs p e h =
    let l = letter_ends field bs p h in
    record { part = l.part; is = ap (λ o. option_and_then (λ q. with_letter field q.0 (wide_at q.1)) o) e ∙ l.is; needs = l.needs }

no_precision : (b : ℕ) (bs : Text) → (b == 46) ≡ false → precision_at (b ∷ bs) ≡ Some (absent, b ∷ bs)
no_precision b bs e = rw (e, precision_at) refl

rest_is : (field : Field) (bs : Text) (p : Needs × Text) → behind_width bs ≡ Some p → IsRest field bs p
rest_is field [] p e = none_no e
rest_is field (b ∷ bs) p e = go (b == 46) refl e
  where
    go : (t : Bool) → (b == 46) ≡ t → (elim (if t then Some bs else None) [ Some rest ↦ precise_part rest | None ↦ letter_part (b ∷ bs) ]) ≡ Some p → IsRest field (b ∷ bs) p
    go true s h = subst (λ x. IsRest field (x ∷ bs) p) (sym (eqb-true b 46 s)) (precise_rest field bs p h)
    go false s h = letter_rest field (b ∷ bs) p (no_precision b bs s) h

-- the directive behind a `%`
record IsDirective (bs : Text) (p : Needs × Text) : Type 0 where
  part : Part
  is : directive_at bs ≡ Some (part, p.1)
  needs : (rest : List Sort) → part_needs part rest ≡ map need_sort p.0 ++ rest

record HasWidth (flags bs : Text) (p : Needs × Text) : Type 0 where
  part : Part
  is : with_width flags (amount_at bs) ≡ Some (part, p.1)
  needs : (rest : List Sort) → part_needs part rest ≡ map need_sort p.0 ++ rest

width_there : (flags bs rest : Text) (width : Amount) → amount_at bs ≡ (width, rest) → is_width width ≡ true
    → with_width flags (amount_at bs) ≡ option_and_then (λ p. with_letter (field_of flags width) p.0 (wide_at p.1)) (precision_at rest)
width_there flags bs rest width e w = ap (λ q. with_width flags q) e ∙ ap (λ t. elim t [ true ↦ option_and_then (λ p. with_letter (field_of flags width) p.0 (wide_at p.1)) (precision_at rest) | false ↦ None ]) w

has_width : (flags bs : Text) (p : Needs × Text) → option_and_then (λ q. after q.0 (behind_width q.1)) (width_part bs) ≡ Some p → HasWidth flags bs p
has_width flags bs p e =
    let c = chosen (width_part bs) (λ q. after q.0 (behind_width q.1)) p e in
    let a = width_is bs c.value c.is in
    let f = is_after c.value.0 (behind_width c.value.1) p c.gives in
    let t = rest_is (field_of flags a.amount) c.value.1 f.value f.is in
    subst (HasWidth flags bs) f.gives (record {
      part = t.part;
      is = width_there flags bs c.value.1 a.amount a.is a.fits ∙ t.is;
      needs = λ rest. t.needs rest ∙ a.needs (map need_sort f.value.0 ++ rest) ∙ sym (joined c.value.0 f.value rest);
    })

directive_is : (bs : Text) (p : Needs × Text) → conversion bs ≡ Some p → IsDirective bs p
directive_is [] p e = none_no e
directive_is (b ∷ bs) p e = go (b == 37) refl e
  where
    go : (t : Bool) → (b == 37) ≡ t → (elim (if t then Some bs else None) [ Some rest ↦ Some ([], rest) | None ↦ full_conversion (b ∷ bs) ]) ≡ Some p → IsDirective (b ∷ bs) p
    go true s h = subst (IsDirective (b ∷ bs)) (some_is h) (record {
      part = plain (37 ∷ []);
      is = subst (λ x. directive_at (x ∷ bs) ≡ Some (plain (37 ∷ []), bs)) (sym (eqb-true b 37 s)) refl;
      needs = λ rest. refl;
    })
    go false s h =
        let w = has_width (front_while is_flag (b ∷ bs)) (behind_by is_flag (b ∷ bs)) p h in
        record {
          part = w.part;
          is = ap (λ t. elim t [ true ↦ Some (plain (37 ∷ []), bs) | false ↦ with_width (front_while is_flag (b ∷ bs)) (amount_at (drop (length (front_while is_flag (b ∷ bs))) (b ∷ bs))) ]) s
              ∙ ap (λ rest. with_width (front_while is_flag (b ∷ bs)) (amount_at rest)) (behind_same is_flag (b ∷ bs)) ∙ w.is;
          needs = w.needs;
        }

-- ---- whole formats

-- a part before others needs what it needs before them
before_need : (part : Part) (parts : List Part) → parts_need (before_parts part parts) ≡ part_needs part (parts_need parts)
before_need (plain bs) [] = refl
before_need (plain bs) (plain cs ∷ parts) = refl
before_need (plain bs) (integer field wide style ∷ parts) = refl
before_need (plain bs) (character field ∷ parts) = refl
before_need (plain bs) (text field precision ∷ parts) = refl
before_need (integer field wide style) parts = refl
before_need (character field) parts = refl
before_need (text field precision) parts = refl

-- what is left behind a conversion is no longer
record AreParts (n : ℕ) (bs : Text) (ns : Needs) : Type 0 where
  parts : List Part
  are : parts_within n bs ≡ Some parts
  need : parts_need parts ≡ map need_sort ns

-- no more than so many bytes stand behind it
abbrev IsShort : ℕ → Option (Needs × Text) → Type 0
IsShort n None = Unit {0}
IsShort n (Some p) = length p.1 ≤ n

longer : (m n : ℕ) (o : Option (Needs × Text)) → m ≤ n → IsShort m o → IsShort n o
longer m n None l h = tt
longer m n (Some p) l h = omega (arith, l, h)

after_short : (n : ℕ) (before : Needs) (o : Option (Needs × Text)) → IsShort n o → IsShort n (after before o)
after_short n before None h = tt
after_short n before (Some p) h = h

then_short : (n : ℕ) (f : Needs × Text → Option (Needs × Text)) (o : Option (Needs × Text)) → IsShort n o → ((p : Needs × Text) → IsShort (length p.1) (f p)) → IsShort n (option_and_then f o)
then_short n f None h k = tt
then_short n f (Some p) h k = longer (length p.1) n (f p) h (k p)

itself : (n : ℕ) → n ≤ n
itself n = omega arith

one_less : (b : ℕ) (bs : Text) → length bs ≤ length (b ∷ bs)
one_less b bs = omega arith

behind_short : (test : ℕ → Bool) (bs : Text) → length (behind_by test bs) ≤ length bs
behind_short test [] = omega arith
behind_short test (b ∷ bs) = go (test b) (behind_short test bs)
  where
    go : (t : Bool) → length (behind_by test bs) ≤ length bs → length (if t then behind_by test bs else b ∷ bs) ≤ length (b ∷ bs)
    go true l = omega (arith, l)
    go false l = omega arith

digits_short : (t : Bool) (bs : Text) → IsShort (length bs) (digits_part t bs)
digits_short true bs = behind_short is_digit bs
digits_short false bs = tt

width_short : (bs : Text) → IsShort (length bs) (width_part bs)
width_short [] = omega arith
width_short (b ∷ bs) = go (b == 42)
  where
    go : (t : Bool) → IsShort (length (b ∷ bs)) (elim (if t then Some bs else None) [ Some rest ↦ Some (exact_int ∷ [], rest) | None ↦ digits_part (nat_le (length (front_by is_digit (b ∷ bs))) 3) (b ∷ bs) ])
    go true = one_less b bs
    go false = digits_short (nat_le (length (front_by is_digit (b ∷ bs))) 3) (b ∷ bs)

precision_short : (bs : Text) → IsShort (length bs) (precision_part bs)
precision_short [] = tt
precision_short (b ∷ bs) = go (b == 42)
  where
    go : (t : Bool) → IsShort (length (b ∷ bs)) (elim (if t then Some bs else None) [ Some rest ↦ Some (exact_int ∷ [], rest) | None ↦ digits_part (nat_le 1 (length (front_by is_digit (b ∷ bs)))) (b ∷ bs) ])
    go true = one_less b bs
    go false = digits_short (nat_le 1 (length (front_by is_digit (b ∷ bs)))) (b ∷ bs)

integer_short : (need : NeedData) (bs : Text) → IsShort (length bs) (integer_part need bs)
integer_short need [] = tt
integer_short need (b ∷ bs) = go (is_integer_letter b)
  where
    go : (t : Bool) → IsShort (length (b ∷ bs)) (if t then Some (need ∷ [], bs) else None)
    go true = one_less b bs
    go false = tt

text_short : (bs : Text) → IsShort (length bs) (text_part bs)
text_short [] = tt
text_short (b ∷ bs) = go (b == 115)
  where
    go : (t : Bool) → IsShort (length (b ∷ bs)) (option_map (λ rest. (text_need ∷ [], rest)) (if t then Some bs else None))
    go true = one_less b bs
    go false = tt

plain_short : (bs : Text) → IsShort (length bs) (plain_letter bs)
plain_short [] = tt
plain_short (b ∷ bs) = go (b == 99)
  where
    other : (o : Option (Needs × Text)) → IsShort (length (b ∷ bs)) o → IsShort (length (b ∷ bs)) (elim o [ Some q ↦ Some q | None ↦ integer_part short_integer (b ∷ bs) ])
    other (Some q) h = h
    other None h = integer_short short_integer (b ∷ bs)

    go : (t : Bool) → IsShort (length (b ∷ bs)) (elim (if t then Some bs else None) [ Some rest ↦ Some (exact_int ∷ [], rest) | None ↦ elim (text_part (b ∷ bs)) [ Some q ↦ Some q | None ↦ integer_part short_integer (b ∷ bs) ] ])
    go true = one_less b bs
    go false = other (text_part (b ∷ bs)) (text_short (b ∷ bs))

long_short : (bs : Text) → IsShort (length bs) (long_letter bs)
long_short [] = tt
long_short (b ∷ bs) = go (b == 108)
  where
    go : (t : Bool) → IsShort (length (b ∷ bs)) (elim (if t then Some bs else None) [ Some rest ↦ integer_part long_integer rest | None ↦ integer_part long_integer (b ∷ bs) ])
    go true = longer (length bs) (length (b ∷ bs)) (integer_part long_integer bs) (one_less b bs) (integer_short long_integer bs)
    go false = integer_short long_integer (b ∷ bs)

letter_short : (bs : Text) → IsShort (length bs) (letter_part bs)
letter_short [] = tt
letter_short (b ∷ bs) = go (b == 108)
  where
    go : (t : Bool) → IsShort (length (b ∷ bs)) (elim (if t then Some bs else None) [ Some rest ↦ long_letter rest | None ↦ plain_letter (b ∷ bs) ])
    go true = longer (length bs) (length (b ∷ bs)) (long_letter bs) (one_less b bs) (long_short bs)
    go false = plain_short (b ∷ bs)

precise_short : (bs : Text) → IsShort (length bs) (precise_part bs)
precise_short bs = then_short (length bs) (λ p. after p.0 (text_part p.1)) (precision_part bs) (precision_short bs) (λ p. after_short (length p.1) p.0 (text_part p.1) (text_short p.1))

rest_short : (bs : Text) → IsShort (length bs) (behind_width bs)
rest_short [] = tt
rest_short (b ∷ bs) = go (b == 46)
  where
    go : (t : Bool) → IsShort (length (b ∷ bs)) (elim (if t then Some bs else None) [ Some rest ↦ precise_part rest | None ↦ letter_part (b ∷ bs) ])
    go true = longer (length bs) (length (b ∷ bs)) (precise_part bs) (one_less b bs) (precise_short bs)
    go false = letter_short (b ∷ bs)

full_short : (bs : Text) → IsShort (length bs) (full_conversion bs)
full_short bs =
    then_short (length bs) (λ p. after p.0 (behind_width p.1)) (width_part (behind_by is_flag bs))
    (longer (length (behind_by is_flag bs)) (length bs) (width_part (behind_by is_flag bs)) (behind_short is_flag bs) (width_short (behind_by is_flag bs)))
    (λ p. after_short (length p.1) p.0 (behind_width p.1) (rest_short p.1))

conversion_short : (bs : Text) → IsShort (length bs) (conversion bs)
conversion_short [] = tt
conversion_short (b ∷ bs) = go (b == 37)
  where
    go : (t : Bool) → IsShort (length (b ∷ bs)) (elim (if t then Some bs else None) [ Some rest ↦ Some ([], rest) | None ↦ full_conversion (b ∷ bs) ])
    go true = one_less b bs
    go false = full_short (b ∷ bs)

short_one : (n : ℕ) (o : Option (Needs × Text)) (p : Needs × Text) → o ≡ Some p → IsShort n o → length p.1 ≤ n
short_one n o p e h = subst (IsShort n) e h

needs_joined : (ns ms : Needs) → map need_sort (ns ++ ms) ≡ map need_sort ns ++ map need_sort ms
needs_joined [] ms = refl
needs_joined (n ∷ ns) ms = ap (λ ks. need_sort n ∷ ks) (needs_joined ns ms)

-- what a value was made from
record Mapped {A B : Type 0} (f : A → B) (o : Option A) (b : B) : Type 0 where
  value : A
  is : o ≡ Some value
  gives : f value ≡ b

mapped : {A B : Type 0} (f : A → B) (o : Option A) (b : B) → option_map f o ≡ Some b → Mapped f o b
mapped f None b e = none_no e
mapped f (Some a) b e = record { value = a; is = refl; gives = some_is e }

no_parts : (n : ℕ) (ns : Needs) → Some [] ≡ Some ns → AreParts n [] ns
no_parts n ns e = subst (AreParts n []) (some_is e) (record { parts = []; are = refl; need = refl })

-- by the two tests of a byte that isn't zero
by_tests : {A C : Type 0} (x y z : Option A) (a : A) (s t u : Bool) → s ≡ false → t ≡ u → (if s then x else (if t then y else z)) ≡ Some a → (u ≡ true → y ≡ Some a → C) → (u ≡ false → z ≡ Some a → C) → C
by_tests x y z a true t u s e h f g = no (sym s)
by_tests x y z a false true u s e h f g = f (sym e) h
by_tests x y z a false false u s e h f g = g (sym e) h

reads : (n : ℕ) (bs : Text) → length bs ≤ n → (ns : Needs) → needs_within n bs ≡ Some ns → AreParts n bs ns
reads zero [] l ns e = no_parts zero ns e
reads zero (b ∷ bs) l ns e = absurd (omega (arith, l))
reads (suc n) [] l ns e = no_parts (suc n) ns e
reads (suc n) (zero ∷ bs) l ns e = subst (AreParts (suc n) (zero ∷ bs)) (some_is e) (record { parts = []; are = refl; need = refl })
reads (suc n) (suc b ∷ bs) l ns e =
    by_tests _ _ _ ns (suc b == 0) (suc b == 37) (b == 36) (eqb-suc-zero b) (eqb-suc-suc b 36) e
    (λ s h. converted s h (λ cs k ms f. reads n cs k ms f)) (λ s h. itself_kept s (reads n bs (omega (arith, l)) ns h))
  where
    taken : Bool → Option (List Part)
    taken t = elim t [
      | true ↦ option_and_then (λ d. option_map (before_parts d.0) (parts_within n d.1)) (directive_at bs)
      | false ↦ option_map (before_parts (plain (suc b ∷ []))) (parts_within n bs)
    ]

    itself_kept : (b == 36) ≡ false → AreParts n bs ns → AreParts (suc n) (suc b ∷ bs) ns
    itself_kept s r = record {
      parts = before_parts (plain (suc b ∷ [])) r.parts;
      are = ap taken s ∙ ap (λ o. option_map (before_parts (plain (suc b ∷ []))) o) r.are;
      need = before_need (plain (suc b ∷ [])) r.parts ∙ r.need;
    }

    converted : (b == 36) ≡ true → option_and_then (λ p. option_map (λ more. p.0 ++ more) (needs_within n p.1)) (conversion bs) ≡ Some ns
        → ((cs : Text) → length cs ≤ n → (ms : Needs) → needs_within n cs ≡ Some ms → AreParts n cs ms) → AreParts (suc n) (suc b ∷ bs) ns
    converted s h again =
        let c = chosen (conversion bs) (λ p. option_map (λ more. p.0 ++ more) (needs_within n p.1)) ns h in
        let m = mapped (λ more. c.value.0 ++ more) (needs_within n c.value.1) ns c.gives in
        let d = directive_is bs c.value c.is in
        let k = short_one (length bs) (conversion bs) c.value c.is (conversion_short bs) in
        let r = again c.value.1 (omega (arith, k, l)) m.value m.is in
        subst (AreParts (suc n) (suc b ∷ bs)) m.gives (record {
          parts = before_parts d.part r.parts;
          are = ap taken s ∙ ap (λ o. option_and_then (λ q. option_map (before_parts q.0) (parts_within n q.1)) o) d.is ∙ ap (λ o. option_map (before_parts d.part) o) r.are;
          need = before_need d.part r.parts ∙ d.needs (parts_need r.parts) ∙ ap (λ ks. map need_sort c.value.0 ++ ks) r.need ∙ sym (needs_joined c.value.0 m.value);
        })

pub formats_are_taken_apart : FormatsAreTakenApart
formats_are_taken_apart format needs e = let r = reads (length format) format (itself (length format)) needs e in record { parts = r.parts; are = r.are; need = r.need }
