-- Which texts are whole numbers, by what `parse` reads of them.
use Rattle.std.proofs.Common.{◌≡◌, ◌∙◌, ◌<◌, ◌^◌, ℕ, Bool, true, false, List, Option, Some, None, Result, Ok, Err, if◌then◌else◌, refl, sym, ap, subst, to_z, of_z}
use Rattle.std.specs.Prelude.{ℤ, pos, negsuc, nat_eq, FitsSigned}
use Rattle.std.specs.Cmp.Lexicographic.{pointwise}
use Rattle.std.specs.Fmt.{signed_decimal}
use Rattle.std.specs.Int.{w64}
use Rattle.std.specs.Str.{IsAscii, IsUtf8}
use Rattle.std.specs.Str.Parse.{ParsesSigned, signed_digits_value}
use Rattle.std.proofs.lemmas.Bool.{ltb-true, lt-ltb}
use Rattle.std.proofs.lemmas.Fmt.{IsAscii-signed, parse-signed_decimal}
use Rattle.std.proofs.lemmas.Str.{IsUtf8-from_ascii}
use Rattle.std.proofs.Math.Facts.{to_z-of_z}
use lib.Signed.{mag}
use Rattle.ec_sqlitelink.specs.Bound.{is_long, exact, whole_of}
use Rattle.ec_sqlitelink.proofs.WordLemmas.{same_from}

long_from : (z : ℤ) → is_long z ≡ true → mag z < 2 ^ 63
long_from (pos n) h = ltb-true n (2 ^ 63) h
long_from (negsuc n) h = ltb-true n (2 ^ 63) h

long_to : (z : ℤ) → mag z < 2 ^ 63 → is_long z ≡ true
long_to (pos n) h = lt-ltb n (2 ^ 63) h
long_to (negsuc n) h = lt-ltb n (2 ^ 63) h

-- a text that is the decimal of no number of 64 bits is none
pub never_whole : (text : List ℕ) → ((z : ℤ) → mag z < 2 ^ 63 → text ≡ signed_decimal z → ⊥) → None ≡ whole_of text
never_whole text never = by_range (is_long (signed_digits_value 10 text)) refl
  where
    by_text : (s : Bool) → pointwise nat_eq (signed_decimal (signed_digits_value 10 text)) text ≡ s → is_long (signed_digits_value 10 text) ≡ true → None ≡ (if s then Some (signed_digits_value 10 text) else None)
    by_text true f e = absurd (never (signed_digits_value 10 text) (long_from (signed_digits_value 10 text) e) (sym (same_from (signed_decimal (signed_digits_value 10 text)) text f)))
    by_text false f e = refl

    by_range : (l : Bool) → is_long (signed_digits_value 10 text) ≡ l → None ≡ (if l then exact (signed_digits_value 10 text) text else None)
    by_range true e = by_text (pointwise nat_eq (signed_decimal (signed_digits_value 10 text)) text) refl e
    by_range false e = refl

-- what `parse` reads of a text is the number, if it is the one whose decimal the text is
pub whole_parsed : {E : Type 0} (bs : List ℕ) (z : ℤ) (r : Result ℤ E) → r ≡ Ok z → ParsesSigned w64 10 bs r → exact (to_z w64 (of_z w64 z)) bs ≡ whole_of bs
whole_parsed {E = E} bs z r is h = of_ok (subst (λ r. ParsesSigned {E = E} w64 10 bs r) is h)
  where
    of_ok : ParsesSigned {E = E} w64 10 bs (Ok z) → exact (to_z w64 (of_z w64 z)) bs ≡ whole_of bs
    of_ok g =
        let back : to_z w64 (of_z w64 z) ≡ z = to_z-of_z (subst (λ v. FitsSigned w64 v) (sym g.1) g.0.1) in
        ap (λ v. exact v bs) (back ∙ g.1)
        ∙ ap (λ l. if l then exact (signed_digits_value 10 bs) bs else None) (sym (long_to (signed_digits_value 10 bs) (g.0.1.sfits)))

clash : {E : Type 0} (r : Result ℤ E) (z : ℤ) (e : E) → r ≡ Ok z → r ≡ Err e → ⊥
clash r z e ok err = cc

-- and what it doesn't read is none
pub whole_unparsed : {E : Type 0} (bs : List ℕ) (e : E) (r : Result ℤ E) → r ≡ Err e → ParsesSigned w64 10 bs r → None ≡ whole_of bs
whole_unparsed bs e r is h = never_whole bs (λ z small same. clash r z e (parse-signed_decimal w64 z bs r (record { sfits = small }) small same h) is)

-- bytes that are no text are none
pub whole_no_text : (bs : List ℕ) → (IsUtf8 bs → ⊥) → None ≡ whole_of bs
whole_no_text bs never = never_whole bs (λ z small same. never (IsUtf8-from_ascii bs (subst (λ text. IsAscii text) (sym same) (IsAscii-signed z small))))
