-- A plain reading goes on from what stands first: steps for a proof that goes through a text from the front.
use Rattle.std.proofs.Common.{◌≡◌, ℕ, zero, suc, ◌<◌, ◌≤◌, Bool, true, false, List, [], ◌∷◌, length, Option, Some, None, Err, refl, ap, ◌∙◌, arith}
use Rattle.ec_language.specs.Letters.{Text, is_empty}
use Rattle.ec_language.specs.Lexemes.{is_fresh_after}
use Rattle.ec_language.specs.Tokens.{line_behind, part_at, bad_byte}
use Rattle.ec_language.specs.ReadPieces.{Behind, passed, cut, endless, c_end, sql_end, front, begins_semicolon}
use Rattle.ec_language.specs.ReadTokens.{ends_include, include_end, include_behind, ReadItem, read_item, with_parts, one_part, c_parts_within, c_parts, units_within, sql_units}
use Rattle.ec_language.proofs.Walks.{shorter}
use Rattle.ec_language.proofs.CUnits.{c_sound, c_some}
use Rattle.ec_language.proofs.SqlUnits.{sql_sound, sql_some}
use Rattle.ec_language.proofs.Items.{item_sound, item_none}
use Rattle.ec_language.proofs.CParts.{item_some, parts_bad, parts_sound, parts_complete}

-- ---- the parts of C text

-- a reading with enough steps doesn't depend on how many there are
pub parts_fuel : (n : ℕ) (written : Bool) (line : ℕ) (fresh : Bool) (text : Text) → length text ≤ n → c_parts_within n written line fresh text ≡ c_parts written line fresh text
parts_fuel n written line fresh text h =
    parts_complete n written line fresh text (c_parts written line fresh text).parts (c_parts written line fresh text).last (parts_sound (length text) written line fresh text (omega arith)) h

pub c_parts_item : (written : Bool) (line : ℕ) (fresh : Bool) (text : Text) (it : ReadItem) → read_item written fresh text ≡ Some it
    → c_parts written line fresh text ≡ with_parts (part_at line it.tok) (c_parts written (line_behind line it.bytes it.step) (is_fresh_after fresh it.bytes) it.rest)
c_parts_item written line fresh [] it e = absurd (cc)
c_parts_item written line fresh (b ∷ bs) it e =
    let s = item_sound written fresh (b ∷ bs) it e in
    let less : length it.rest < length (b ∷ bs) = shorter (b ∷ bs) it.bytes it.rest s.whole (item_some written fresh it.bytes it.rest it.tok it.step s.is) in
    (λ i. elim (e i) [
      | Some it ↦ with_parts (part_at line it.tok) (c_parts_within (length bs) written (line_behind line it.bytes it.step) (is_fresh_after fresh it.bytes) it.rest)
      | None ↦ one_part line (Err (bad_byte fresh (b ∷ bs))) line
    ])
    ∙ ap (with_parts (part_at line it.tok)) (parts_fuel (length bs) written (line_behind line it.bytes it.step) (is_fresh_after fresh it.bytes) it.rest (omega arith))

pub c_parts_bad : (written : Bool) (line : ℕ) (fresh : Bool) (text : Text) → is_empty text ≡ false → read_item written fresh text ≡ None
    → c_parts written line fresh text ≡ one_part line (Err (bad_byte fresh text)) line
c_parts_bad written line fresh [] some e = absurd (cc)
c_parts_bad written line fresh (b ∷ bs) some e = parts_bad (length bs) written line fresh (b ∷ bs) some (item_none written fresh (b ∷ bs) e)

-- ---- an `#include` line

c_shorter : (text rest : Text) → c_end text ≡ passed rest → length rest < length text
c_shorter text rest e = let h = c_sound text rest e in shorter text h.unit rest h.whole (c_some h.unit rest h.is)

include_fuel : (n m : ℕ) (text : Text) → length text < n → length text < m → include_end n text ≡ include_end m text
include_fuel zero m text h k = absurd (omega arith)
include_fuel (suc n) zero text h k = absurd (omega arith)
include_fuel (suc n) (suc m) text h k = step (ends_include text) (c_end text) refl (λ rest l. include_fuel n m rest l)
  where
    step : (x : Bool) (end : Behind) → c_end text ≡ end → ((rest : Text) → length rest < n → length rest < m → include_end n rest ≡ include_end m rest)
        → ◌≡◌ {A = Option Text} (elim x [ true ↦ Some text | false ↦ elim end [ passed rest ↦ include_end n rest | cut rest ↦ None | endless ↦ None ] ])
        (elim x [ true ↦ Some text | false ↦ elim end [ passed rest ↦ include_end m rest | cut rest ↦ None | endless ↦ None ] ])
    step true end e ih = refl
    step false (passed rest) e ih = let less = c_shorter text rest e in ih rest (omega arith) (omega arith)
    step false (cut rest) e ih = refl
    step false endless e ih = refl

abbrev include_step : ℕ → Text → Bool → Behind → Option Text
include_step n text x end = elim x [ true ↦ Some text | false ↦ elim end [ passed rest ↦ include_end n rest | cut rest ↦ None | endless ↦ None ] ]

pub include_here : (text : Text) → ends_include text ≡ true → include_behind text ≡ Some text
include_here text e = ap (λ x. include_step (length text) text x (c_end text)) e

pub include_on : (text rest : Text) → ends_include text ≡ false → c_end text ≡ passed rest → include_behind text ≡ include_behind rest
include_on text rest e g =
    let less = c_shorter text rest g in
    (λ i. include_step (length text) text (e i) (g i)) ∙ include_fuel (length text) (suc (length rest)) rest less (omega arith)

pub include_never : (text : Text) → ends_include text ≡ false → ((rest : Text) → c_end text ≡ passed rest → ⊥) → include_behind text ≡ None
include_never text e never = ap (λ x. include_step (length text) text x (c_end text)) e ∙ step (c_end text) refl
  where
    step : (end : Behind) → c_end text ≡ end → include_step (length text) text false end ≡ None
    step (passed rest) g = absurd (never rest g)
    step (cut rest) g = refl
    step endless g = refl

-- ---- the units of a statement

sql_shorter : (text rest : Text) → sql_end text ≡ passed rest → length rest < length text
sql_shorter text rest e = let h = sql_sound text rest e in shorter text h.unit rest h.whole (sql_some h.unit rest h.is)

abbrev unit_step : ℕ → Text → Bool → Behind → List Text
unit_step n text x end = elim x [ true ↦ [] | false ↦ elim end [ passed rest ↦ front text rest ∷ units_within n rest | cut rest ↦ [] | endless ↦ [] ] ]

units_fuel : (n m : ℕ) (text : Text) → length text < n → length text < m → units_within n text ≡ units_within m text
units_fuel zero m text h k = absurd (omega arith)
units_fuel (suc n) zero text h k = absurd (omega arith)
units_fuel (suc n) (suc m) text h k = step (begins_semicolon text) (sql_end text) refl (λ rest l. units_fuel n m rest l)
  where
    step : (x : Bool) (end : Behind) → sql_end text ≡ end → ((rest : Text) → length rest < n → length rest < m → units_within n rest ≡ units_within m rest)
        → unit_step n text x end ≡ unit_step m text x end
    step true end e ih = refl
    step false (passed rest) e ih = let less = sql_shorter text rest e in ap (λ us. front text rest ∷ us) (ih rest (omega arith) (omega arith))
    step false (cut rest) e ih = refl
    step false endless e ih = refl

pub sql_units_here : (text : Text) → begins_semicolon text ≡ true → sql_units text ≡ []
sql_units_here text e = ap (λ x. unit_step (length text) text x (sql_end text)) e

pub sql_units_on : (text rest : Text) → begins_semicolon text ≡ false → sql_end text ≡ passed rest → sql_units text ≡ front text rest ∷ sql_units rest
sql_units_on text rest e g =
    let less = sql_shorter text rest g in
    (λ i. unit_step (length text) text (e i) (g i)) ∙ ap (λ us. front text rest ∷ us) (units_fuel (length text) (suc (length rest)) rest less (omega arith))
