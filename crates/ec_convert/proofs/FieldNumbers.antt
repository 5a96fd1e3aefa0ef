-- The number in a field, and what `parse` reads of it.
use Rattle.std.proofs.Common.{◌≡◌, ◌∙◌, sym, ℕ, Bool, true, false, List, [], ◌∷◌, drop, refl, ap, subst, arith, None, Some, Option, Result, Ok, Err, eqb, cond, to_z, of_z}
use Rattle.std.specs.Prelude.{ℤ, negsuc, FitsSigned, ◌&&◌, ◌≤ℤ◌, int_le, if◌then◌else◌}
use Rattle.std.specs.Int.{w128}
use Rattle.std.specs.Str.{IsAscii, IsUtf8, all_ascii_digits}
use Rattle.std.specs.Str.Parse.{IsNumeral, ParsesSigned, without_leading_sign, signed_digits_value, digits_value}
use Rattle.std.proofs.lemmas.Bool.{false≢true}
use Rattle.std.proofs.lemmas.Bool.Decides.{nat_tests}
use Rattle.std.proofs.lemmas.Int.{ints}
use Rattle.std.proofs.Math.Facts.{to_z-of_z}
use Rattle.std.proofs.lemmas.Fmt.{IsAscii-from_digits}
use Rattle.std.proofs.lemmas.Str.{IsUtf8-from_ascii}
use Rattle.std.proofs.lemmas.Str.Ascii.{IsAscii-cons}
use Rattle.std.proofs.lemmas.Str.Parse.{IsNumeralModel, numerals_by_value, tells_all_ascii_digits}
use Rattle.ec_ctypes.specs.declared.types.arith.Arith.{Arith}
use Rattle.ec_ctypes.specs.declared.types.arith.Arith.TheVariants.{Bool as Boolean, Char, UChar, Short, UShort, Int, UInt, Long, ULong, LLong, ULLong}
use Rattle.ec_ctypes.specs.Arithmetic.{is_signed, least, greatest, IsValue}
use Rattle.ec_convert.specs.Pieces.{fitting}
use Rattle.ec_transfer_defs.specs.Conversion.{are_digits, field_number, fits, integer_bytes, number_bytes}

model : IsNumeralModel (λ ds. all_ascii_digits ds ≡ true) (digits_value 10)
model = numerals_by_value (λ ds. all_ascii_digits ds ≡ true) tells_all_ascii_digits

digits_from : (ds : List ℕ) → are_digits ds ≡ true → IsNumeral 10 ds
digits_from [] h = absurd (false≢true h)
digits_from (d ∷ ds) h = (omega arith, model.to (d ∷ ds) h)

pub digits_to : (ds : List ℕ) → IsNumeral 10 ds → are_digits ds ≡ true
digits_to [] h = absurd (omega (arith, h.0))
digits_to (d ∷ ds) h = model.from (d ∷ ds) h.1

ascii_cases : (c : ℕ) (cs : List ℕ) (minus plus : Bool) → eqb c 45 ≡ minus → eqb c 43 ≡ plus
    → are_digits (cond minus cs (drop (cond plus 1 0) (c ∷ cs))) ≡ true → IsAscii (c ∷ cs)
ascii_cases c cs true plus e f h = IsAscii-cons c cs (grind (arith, nat_tests)) (IsAscii-from_digits cs (digits_from cs h).1)
ascii_cases c cs false true e f h = IsAscii-cons c cs (grind (arith, nat_tests)) (IsAscii-from_digits cs (digits_from cs h).1)
ascii_cases c cs false false e f h = IsAscii-from_digits (c ∷ cs) (digits_from (c ∷ cs) h).1

ascii_number : (bs : List ℕ) → are_digits (without_leading_sign bs) ≡ true → IsAscii bs
ascii_number [] h = absurd (false≢true h)
ascii_number (c ∷ cs) h = ascii_cases c cs (eqb c 45) (eqb c 43) refl refl h

-- bytes that are no text are no number
pub number_no_text : (t : Arith) (bs : List ℕ) → (IsUtf8 bs → ⊥) → None ≡ fitting t (field_number bs)
number_no_text t bs never = cases (are_digits (without_leading_sign bs)) refl
  where
    cases : (b : Bool) → are_digits (without_leading_sign bs) ≡ b → None ≡ fitting t (cond b (Some (signed_digits_value 10 bs)) None)
    cases true e = absurd (never (IsUtf8-from_ascii bs (ascii_number bs e)))
    cases false e = refl

-- the two halves of a test
both : (p q : Bool) → (p && q) ≡ true → (p ≡ true) × (q ≡ true)
both true true h = (refl, refl)
both true false h = absurd (false≢true h)
both false q h = absurd (false≢true h)

at_most : (a b : ℤ) → int_le a b ≡ true → a ≤ℤ b
at_most a b h = grind (arith, ints)

-- a number that passes the test is one of the type
fits_value : (t : Arith) (z : ℤ) → fits t z ≡ true → IsValue t z
fits_value t z h =
    let halves = both (int_le (least t) z) (int_le z (greatest t)) h in
    (at_most (least t) z halves.0, at_most z (greatest t) halves.1)

-- each type is within 128 bits
pub wide : (t : Arith) (z : ℤ) → IsValue t z → FitsSigned w128 z
wide Boolean z v = omega (arith, ints, v.0, v.1)
wide Char z v = omega (arith, ints, v.0, v.1)
wide UChar z v = omega (arith, ints, v.0, v.1)
wide Short z v = omega (arith, ints, v.0, v.1)
wide UShort z v = omega (arith, ints, v.0, v.1)
wide Int z v = omega (arith, ints, v.0, v.1)
wide UInt z v = omega (arith, ints, v.0, v.1)
wide Long z v = omega (arith, ints, v.0, v.1)
wide ULong z v = omega (arith, ints, v.0, v.1)
wide LLong z v = omega (arith, ints, v.0, v.1)
wide ULLong z v = omega (arith, ints, v.0, v.1)

-- what `parse` reads is the number
pub number_parsed : {E : Type 0} (t : Arith) (bs : List ℕ) (z : ℤ) (r : Result ℤ E) → r ≡ Ok z → ParsesSigned w128 10 bs r → fitting t (Some (to_z w128 (of_z w128 z))) ≡ fitting t (field_number bs)
number_parsed {E = E} t bs z r is h = of_ok (subst (λ r. ParsesSigned {E = E} w128 10 bs r) is h)
  where
    of_ok : ParsesSigned {E = E} w128 10 bs (Ok z) → fitting t (Some (to_z w128 (of_z w128 z))) ≡ fitting t (field_number bs)
    of_ok g = cases (are_digits (without_leading_sign bs)) refl
      where
        back : to_z w128 (of_z w128 z) ≡ z
        back = to_z-of_z (subst (λ v. FitsSigned w128 v) (sym g.1) g.0.1)

        cases : (b : Bool) → are_digits (without_leading_sign bs) ≡ b → fitting t (Some (to_z w128 (of_z w128 z))) ≡ fitting t (cond b (Some (signed_digits_value 10 bs)) None)
        cases true e = ap (λ v. fitting t (Some v)) (back ∙ g.1)
        cases false e = absurd (false≢true (sym e ∙ digits_to (without_leading_sign bs) g.0.0))

-- and what it doesn't read is none of a type
pub number_unparsed : {E : Type 0} (t : Arith) (bs : List ℕ) (e : E) (r : Result ℤ E) → r ≡ Err e → ParsesSigned w128 10 bs r → None ≡ fitting t (field_number bs)
number_unparsed {E = E} t bs e r is h = cases (are_digits (without_leading_sign bs)) refl
  where
    never : ParsesSigned {E = E} w128 10 bs (Err e)
    never = subst (λ r. ParsesSigned {E = E} w128 10 bs r) is h

    fitted : (b : Bool) → fits t (signed_digits_value 10 bs) ≡ b → IsNumeral 10 (without_leading_sign bs) → None ≡ (if b then Some (signed_digits_value 10 bs) else None)
    fitted true f numeral = absurd (never (numeral, wide t (signed_digits_value 10 bs) (fits_value t (signed_digits_value 10 bs) f)))
    fitted false f numeral = refl

    cases : (b : Bool) → are_digits (without_leading_sign bs) ≡ b → None ≡ fitting t (cond b (Some (signed_digits_value 10 bs)) None)
    cases true f = fitted (fits t (signed_digits_value 10 bs)) refl (digits_from (without_leading_sign bs) f)
    cases false f = refl

-- the piece of a number
pub record PieceOf (t : Arith) (o : Option ℤ) (y : ℤ) : Type 0 where
  pub bytes : Ok (integer_bytes t y) ≡ number_bytes t o
  pub value : IsValue t y

pub number_kept : (t : Arith) (o : Option ℤ) (z : ℤ) → Some z ≡ fitting t o → PieceOf t o (to_z w128 (of_z w128 z))
number_kept t None z e = cc
number_kept t (Some x) z e = tested (fits t x) refl e
  where
    tested : (b : Bool) → fits t x ≡ b → Some z ≡ (if b then Some x else None) → PieceOf t (Some x) (to_z w128 (of_z w128 z))
    tested false f e = cc
    tested true f e =
        let same : z ≡ x = cc in
        let value : IsValue t x = fits_value t x f in
        let back : to_z w128 (of_z w128 z) ≡ x = ap (λ v. to_z w128 (of_z w128 v)) same ∙ to_z-of_z (wide t x value) in
        record { bytes = rw f (ap (λ v. Ok (integer_bytes t v)) back); value = subst (λ v. IsValue t v) (sym back) value }

-- a signed type has -1
pub minus_one : (t : Arith) → is_signed t ≡ true → IsValue t (negsuc 0)
minus_one Boolean e = absurd (false≢true e)
minus_one Char e = (omega (arith, ints), omega (arith, ints))
minus_one UChar e = absurd (false≢true e)
minus_one Short e = (omega (arith, ints), omega (arith, ints))
minus_one UShort e = absurd (false≢true e)
minus_one Int e = (omega (arith, ints), omega (arith, ints))
minus_one UInt e = absurd (false≢true e)
minus_one Long e = (omega (arith, ints), omega (arith, ints))
minus_one ULong e = absurd (false≢true e)
minus_one LLong e = (omega (arith, ints), omega (arith, ints))
minus_one ULLong e = absurd (false≢true e)
