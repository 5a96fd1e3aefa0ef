-- Where an `#include` line ends: `include_end` finds the one end that the definition allows.
use Rattle.std.proofs.Common.{◌≡◌, ℕ, zero, suc, ◌<◌, ◌≤◌, Bool, true, false, not, ◌&&◌, ◌||◌, List, [], ◌∷◌, ◌++◌, length, take, drop, Some, None, refl, sym, ap, ◌∙◌, subst, arith, length-append, append_assoc}
use Rattle.std.specs.Prelude.{codes, nat_eq}
use Rattle.std.specs.List.{concat, list_all}
use Rattle.std.proofs.lemmas.List.{take-append-le}
use Rattle.ec_language.specs.Letters.{Text, newline, is_digit, is_word_start, is_word_byte, is_number_byte, is_quote, is_not_newline, is_empty, begins_with, each, same_text}
use Rattle.ec_language.specs.CText.{is_block_comment, is_line_comment, closes_comment, closes_quote, CUnit, word, number, block_comment, line_comment, quoted, single, CUnits}
use Rattle.ec_language.specs.Lexemes.{is_comment}
use Rattle.ec_language.specs.ReadPieces.{Behind, passed, cut, endless, behind_all, c_end}
use Rattle.ec_language.specs.Pieces.{NoneStarts, starts_piece}
use Rattle.ec_language.specs.ReadTokens.{ends_include, include_end}
use Rattle.ec_language.proofs.Ends.{both, turned}
use Rattle.ec_language.proofs.Classes.{apart, neither, turn_not, all_sound}
use Rattle.ec_language.proofs.CUnits.{CHere, c_sound, c_complete, c_some}
use Rattle.ec_language.proofs.Walks.{shorter}
use Rattle.ec_language.proofs.LongestMatch.{begins_less}

-- a unit that an `#include` line may have
abbrev pub is_inside : Text → Bool
is_inside u = not (is_comment u || begins_with (newline ∷ []) u)

-- the rest of an `#include` line
pub record IncludeTail (text rest : Text) : Type 0 where
  pub units : List Text
  pub whole : text ≡ concat units ++ rest
  pub free : CUnits units rest
  pub inside : list_all is_inside units ≡ true
  pub none : NoneStarts units rest
  pub ends : ends_include rest ≡ true

-- ---- what is found

inside_unit : (u rest : Text) → ends_include (u ++ rest) ≡ false → is_inside u ≡ true
inside_unit u rest e =
    let own = neither (is_empty (u ++ rest) || begins_with (newline ∷ []) (u ++ rest) || begins_with (codes "/*") (u ++ rest) || begins_with (codes "//") (u ++ rest)) (starts_piece (u ++ rest)) e in
    let line = neither (is_empty (u ++ rest) || begins_with (newline ∷ []) (u ++ rest) || begins_with (codes "/*") (u ++ rest)) (begins_with (codes "//") (u ++ rest)) own.0 in
    let block = neither (is_empty (u ++ rest) || begins_with (newline ∷ []) (u ++ rest)) (begins_with (codes "/*") (u ++ rest)) line.0 in
    let end = neither (is_empty (u ++ rest)) (begins_with (newline ∷ []) (u ++ rest)) block.0 in
    let a = begins_less (newline ∷ []) u rest end.1 in
    let b = begins_less (codes "/*") u rest block.1 in
    let c = begins_less (codes "//") u rest line.1 in
    λ i. not (((b i && closes_comment (drop 2 u)) || (c i && each is_not_newline u)) || a i)

no_start : (text : Text) → ends_include text ≡ false → starts_piece text ≡ false
no_start text e = (neither (is_empty text || begins_with (newline ∷ []) text || begins_with (codes "/*") text || begins_with (codes "//") text) (starts_piece text) e).1

pub include_sound : (n : ℕ) (text rest : Text) → include_end n text ≡ Some rest → IncludeTail text rest
include_sound zero text rest h = absurd (cc)
include_sound (suc n) text rest h = step (ends_include text) (c_end text) refl refl (include_sound n) h
  where
    more : (behind : Text) → ends_include text ≡ false → CHere text behind → IncludeTail behind rest → IncludeTail text rest
    more behind e here tail = record {
      units = here.unit ∷ tail.units;
      whole = here.whole ∙ ap (λ x. here.unit ++ x) tail.whole ∙ sym (append_assoc here.unit (concat tail.units) rest);
      free = (subst (CUnit here.unit) tail.whole here.is, tail.free);
      inside = (λ i. inside_unit here.unit behind (subst (λ x. ends_include x ≡ false) here.whole e) i && tail.inside i);
      none = (subst (λ x. starts_piece x ≡ false) (here.whole ∙ ap (λ x. here.unit ++ x) tail.whole ∙ sym (append_assoc here.unit (concat tail.units) rest)) (no_start text e), tail.none);
      ends = tail.ends;
    }

    step : (x : Bool) (end : Behind) → ends_include text ≡ x → c_end text ≡ end → ((t r : Text) → include_end n t ≡ Some r → IncludeTail t r)
        → elim x [ true ↦ Some text | false ↦ elim end [ passed behind ↦ include_end n behind | cut behind ↦ None | endless ↦ None ] ] ≡ Some rest → IncludeTail text rest
    step true end e g ih k = let same : text ≡ rest = cc in record { units = []; whole = same; free = tt; inside = refl; none = tt; ends = subst (λ x. ends_include x ≡ true) same e }
    step false (passed behind) e g ih k = more behind e (c_sound text behind g) (ih behind rest k)
    step false (cut behind) e g ih k = absurd (cc)
    step false endless e g ih k = absurd (cc)

-- ---- what is there is found

not_47 : (class : ℕ → Bool) (b : ℕ) → class b ≡ true → class 47 ≡ false → nat_eq 47 b ≡ false
not_47 class b e n = turned false b 47 (apart class b 47 e n)

-- no comment begins with this byte
no_slash : (b : ℕ) (w : Text) → nat_eq 47 b ≡ false → (begins_with (codes "/*") (b ∷ w) || begins_with (codes "//") (b ∷ w)) ≡ false
no_slash b w h = λ i. (h i && same_text (codes "*") (take 1 w)) || (h i && same_text (codes "/") (take 1 w))

-- a unit that is no comment doesn't begin as one
begins_no_comment : (u rest : Text) → CUnit u rest → is_comment u ≡ false → (begins_with (codes "/*") (u ++ rest) || begins_with (codes "//") (u ++ rest)) ≡ false
begins_no_comment u rest (word [] r is ends) e = absurd (cc)
begins_no_comment u rest (word (b ∷ w) r is ends) e = no_slash b (w ++ r) (not_47 is_word_start b ((both (is_word_start b) (each is_word_byte w) is).0) refl)
begins_no_comment u rest (number [] r is ends) e = absurd (cc)
begins_no_comment u rest (number (b ∷ w) r is ends) e = no_slash b (w ++ r) (not_47 is_digit b ((both (is_digit b) (each is_number_byte w) is).0) refl)
begins_no_comment u rest (quoted [] r is) e = absurd (cc)
begins_no_comment u rest (quoted (b ∷ w) r is) e = no_slash b (w ++ r) (not_47 is_quote b ((both (is_quote b) (closes_quote b w) is).0) refl)
begins_no_comment u rest (block_comment v r is) e = absurd (let k = neither (is_block_comment v) (is_line_comment v) e in let h = k.0 in cc)
begins_no_comment u rest (line_comment v r is ends) e = absurd (let k = neither (is_block_comment v) (is_line_comment v) e in let h = k.1 in cc)
begins_no_comment u rest (single [] r is) e = absurd (cc)
begins_no_comment u rest (single (b ∷ c ∷ w) r is) e = absurd (cc)
begins_no_comment u rest (single (b ∷ []) r is) e =
    let all = turn_not (is_word_start b || is_digit b || is_quote b || begins_with (codes "/*") (b ∷ r) || begins_with (codes "//") (b ∷ r)) is in
    let line = neither (is_word_start b || is_digit b || is_quote b || begins_with (codes "/*") (b ∷ r)) (begins_with (codes "//") (b ∷ r)) all in
    let block = neither (is_word_start b || is_digit b || is_quote b) (begins_with (codes "/*") (b ∷ r)) line.0 in
    λ i. block.1 i || line.1 i

goes_on : (u rest : Text) → CUnit u rest → is_inside u ≡ true → starts_piece (u ++ rest) ≡ false → ends_include (u ++ rest) ≡ false
goes_on u rest unit e n = step u (c_some u rest unit) n (both_sides (neither (is_comment u) (begins_with (newline ∷ []) u) (turn_not (is_comment u || begins_with (newline ∷ []) u) e)))
  where
    both_sides : (is_comment u ≡ false) × (begins_with (newline ∷ []) u ≡ false) → (begins_with (newline ∷ []) u ≡ false) × ((begins_with (codes "/*") (u ++ rest) || begins_with (codes "//") (u ++ rest)) ≡ false)
    both_sides h = (h.1, begins_no_comment u rest unit h.0)

    five : (x y z s : Bool) → x ≡ false → (y || z) ≡ false → s ≡ false → (false || x || y || z || s) ≡ false
    five true y z s p q r = absurd (cc)
    five false true z s p q r = absurd (cc)
    five false false true s p q r = absurd (cc)
    five false false false s p q r = r

    step : (v : Text) → is_empty v ≡ false → starts_piece (v ++ rest) ≡ false → (begins_with (newline ∷ []) v ≡ false) × ((begins_with (codes "/*") (v ++ rest) || begins_with (codes "//") (v ++ rest)) ≡ false) → ends_include (v ++ rest) ≡ false
    step [] h n k = absurd (cc)
    step (b ∷ w) h n k = five (begins_with (newline ∷ []) (b ∷ w ++ rest)) (begins_with (codes "/*") (b ∷ w ++ rest)) (begins_with (codes "//") (b ∷ w ++ rest)) (starts_piece (b ∷ w ++ rest)) k.0 k.1 n

pub include_complete : (n : ℕ) (units : List Text) (rest : Text) → CUnits units rest → list_all is_inside units ≡ true → NoneStarts units rest → ends_include rest ≡ true
    → length (concat units ++ rest) < n → include_end n (concat units ++ rest) ≡ Some rest
include_complete zero units rest free inside none ends l = absurd (omega arith)
include_complete (suc n) [] rest free inside none ends l = λ i. elim (ends i) [
  | true ↦ Some rest
  | false ↦ elim (c_end rest) [ passed r ↦ include_end n r | cut r ↦ None | endless ↦ None ]
]
include_complete (suc n) (u ∷ us) rest free inside none ends l =
    let parts = both (is_inside u) (list_all is_inside us) inside in
    let whole : (u ++ concat us) ++ rest ≡ u ++ (concat us ++ rest) = append_assoc u (concat us) rest in
    let more = goes_on u (concat us ++ rest) free.0 parts.0 (ap starts_piece (sym whole) ∙ none.0) in
    let next = c_complete u (concat us ++ rest) free.0 in
    let less : length (concat us ++ rest) < length (u ++ (concat us ++ rest)) = shorter (u ++ (concat us ++ rest)) u (concat us ++ rest) refl (c_some u (concat us ++ rest) free.0) in
    ap (include_end (suc n)) whole
    ∙ (λ i. elim (more i) [
      | true ↦ Some (u ++ (concat us ++ rest))
      | false ↦ elim (next i) [ passed r ↦ include_end n r | cut r ↦ None | endless ↦ None ]
    ])
    ∙ include_complete n us rest free.1 parts.1 none.1 ends (omega (arith, ap length whole))

-- ---- the whole line

-- what stands behind the word is at most what stands behind its first bytes
behind_less : (test : ℕ → Bool) (text : Text) → length (behind_all test text) ≤ length text
behind_less test text = let s = all_sound test text (behind_all test text) refl in omega (arith, ap length s.whole, length-append s.unit (behind_all test text))

tail_less : (text rest : Text) → IncludeTail text rest → length rest ≤ length text
tail_less text rest tail = omega (arith, ap length tail.whole, length-append (concat tail.units) rest)

-- a line that begins so has all of `#include`
pub include_begins : (n : ℕ) (x rest : Text) (tail : IncludeTail (codes "#include" ++ x) rest) → include_end (suc (suc n)) (codes "#include" ++ x) ≡ Some rest
    → begins_with (codes "#include") (concat tail.units) ≡ true
include_begins n x rest tail h =
    let less = tail_less (behind_all is_word_byte x) rest (include_sound n (behind_all is_word_byte x) rest h) in
    let eight : 8 ≤ length (concat tail.units) = omega (arith, ap length tail.whole, length-append (concat tail.units) rest, behind_less is_word_byte x, less) in
    ap (same_text (codes "#include")) (sym (ap (take 8) tail.whole ∙ take-append-le 8 (concat tail.units) rest eight))
