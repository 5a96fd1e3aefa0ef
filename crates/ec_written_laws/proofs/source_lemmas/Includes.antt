-- An `#include` line of a source is one by itself, to the end of a line.
use Rattle.std.proofs.Common.{◌≡◌, ℕ, suc, Bool, true, false, not, ◌&&◌, ◌||◌, List, [], ◌∷◌, ◌++◌, length, refl, sym, ap, ◌∙◌, arith, eqb-true}
use Rattle.std.specs.Prelude.{codes, ◌==◌}
use Rattle.std.specs.List.{concat, list_all}
use Rattle.std.proofs.lemmas.Bool.{false≢true}
use Rattle.std.proofs.lemmas.Bool.Decides.{nat_tests}
use Rattle.ec_language.specs.Letters.{Text, newline, backslash, is_word_start, is_word_byte, is_number_byte, is_digit, is_quote, is_not_newline, is_empty, begins_with, each}
use Rattle.ec_language.specs.CText.{is_word, is_number, is_block_comment, is_line_comment, is_quoted, closes_quote, CUnit, CUnits}
use Rattle.ec_language.specs.CText as unit
use Rattle.ec_language.specs.Lexemes.{is_comment, IncludeLine}
use Rattle.ec_language.specs.ReadTokens.{include_behind}
use Rattle.ec_language.proofs.Classes.{apart, turn_not, neither}
use Rattle.ec_language.proofs.Ends.{both}
use Rattle.ec_language.proofs.Includes.{is_inside, include_complete}
use Rattle.ec_language.specs.Pieces.{NoneStarts}
use Rattle.ec_language.proofs.CWalks.{c_stop_behind}
use Rattle.ec_writing_defs.specs.Shapes.{has_no_piece, is_line_end, is_include_line}
use Rattle.ec_written_laws.proofs.source_lemmas.Parts.{join}
use Rattle.ec_written_laws.proofs.source_lemmas.LineUnits.{none_before}

-- ---- no end of a line

each_other : (f g : ℕ → Bool) → ((b : ℕ) → f b ≡ true → g b ≡ true) → (t : Text) → each f t ≡ true → each g t ≡ true
each_other f g k [] h = refl
each_other f g k (b ∷ t) h = let p = both (f b) (each f t) h in join (k b p.0) (each_other f g k t p.1)

each_joined : (f : ℕ → Bool) (u w : Text) → each f u ≡ true → each f w ≡ true → each f (u ++ w) ≡ true
each_joined f [] w h k = k
each_joined f (b ∷ u) w h k = let p = both (f b) (each f u) h in join p.0 (each_joined f u w p.1 k)

-- a class without the newline
no_newline : (class : ℕ → Bool) → class newline ≡ false → (b : ℕ) → class b ≡ true → is_not_newline b ≡ true
no_newline class n b h = ap not (apart class b newline h n)

quote_line : (q : ℕ) → is_not_newline q ≡ true → (u : Text) → closes_quote q u ≡ true → each is_not_newline u ≡ true
quote_line q n [] h = refl
quote_line q n (b ∷ []) h = let e : b ≡ q = eqb-true _ _ h in join (ap is_not_newline e ∙ n) refl
quote_line q n (b ∷ c ∷ u) h = go (b == q) (b == backslash) refl h (quote_line q n (c ∷ u)) (quote_line q n u)
  where
    go : (x y : Bool) → (b == backslash) ≡ y → elim x [ true ↦ false | false ↦ elim y [ true ↦ is_not_newline c && closes_quote q u | false ↦ is_not_newline b && closes_quote q (c ∷ u) ] ] ≡ true
        → (closes_quote q (c ∷ u) ≡ true → each is_not_newline (c ∷ u) ≡ true) → (closes_quote q u ≡ true → each is_not_newline u ≡ true) → each is_not_newline (b ∷ c ∷ u) ≡ true
    go true y e k one two = absurd (false≢true k)
    go false true e k one two =
        let p = both (is_not_newline c) (closes_quote q u) k in
        let s : b ≡ backslash = eqb-true _ _ e in
        join (ap is_not_newline s) (join p.0 (two p.1))
    go false false e k one two = let p = both (is_not_newline b) (closes_quote q (c ∷ u)) k in join p.0 (one p.1)

unit_line : (u rest : Text) → CUnit u rest → is_inside u ≡ true → each is_not_newline u ≡ true
unit_line [] rest d i = refl
unit_line (b ∷ u) rest (unit.word v s is ends) i =
    let p = both (is_word_start b) (each is_word_byte u) is in
    join (no_newline is_word_start refl b p.0) (each_other is_word_byte is_not_newline (no_newline is_word_byte refl) u p.1)
unit_line (b ∷ u) rest (unit.number v s is ends) i =
    let p = both (is_digit b) (each is_number_byte u) is in
    join (no_newline is_digit refl b p.0) (each_other is_number_byte is_not_newline (no_newline is_number_byte refl) u p.1)
unit_line (b ∷ u) rest (unit.block_comment v s is) i = absurd (false≢true (let k = (neither (is_comment (b ∷ u)) (begins_with (newline ∷ []) (b ∷ u)) (turn_not _ i)).0 in sym (neither (is_block_comment (b ∷ u)) (is_line_comment (b ∷ u)) k).0 ∙ is))
unit_line (b ∷ u) rest (unit.line_comment v s is ends) i = absurd (false≢true (let k = (neither (is_comment (b ∷ u)) (begins_with (newline ∷ []) (b ∷ u)) (turn_not _ i)).0 in sym (neither (is_block_comment (b ∷ u)) (is_line_comment (b ∷ u)) k).1 ∙ is))
unit_line (b ∷ u) rest (unit.quoted v s is) i =
    let p = both (is_quote b) (closes_quote b u) is in
    join (no_newline is_quote refl b p.0) (quote_line b (no_newline is_quote refl b p.0) u p.1)
unit_line (b ∷ []) rest (unit.single v s is) i = join (not_newline b (neither (is_comment (b ∷ [])) (begins_with (newline ∷ []) (b ∷ [])) (turn_not _ i)).1) refl
  where
    not_newline : (b : ℕ) → begins_with (newline ∷ []) (b ∷ []) ≡ false → is_not_newline b ≡ true
    not_newline b e = grind (arith, nat_tests)
unit_line (b ∷ c ∷ u) rest (unit.single v s is) i = absurd (false≢true is)

units_line : (us : List Text) (rest : Text) → CUnits us rest → list_all is_inside us ≡ true → each is_not_newline (concat us) ≡ true
units_line [] rest f i = refl
units_line (u ∷ us) rest f i = let p = both (is_inside u) (list_all is_inside us) i in each_joined is_not_newline u (concat us) (unit_line u (concat us ++ rest) f.0 p.0) (units_line us rest f.1 p.1)

-- ---- before the end of a line

single_before : (b : ℕ) (x y : Bool) → (is_word_start b || is_digit b || is_quote b || x || y) ≡ false → not (is_word_start b || is_digit b || is_quote b || ((47 == b) && false) || ((47 == b) && false)) ≡ true
single_before b x y h = go (is_word_start b) (is_digit b) (is_quote b) (47 == b) h
  where
    go : (w d q s : Bool) → (w || d || q || x || y) ≡ false → not (w || d || q || (s && false) || (s && false)) ≡ true
    go true d q s h = absurd (cc)
    go false true q s h = absurd (cc)
    go false false true s h = absurd (cc)
    go false false false true h = refl
    go false false false false h = refl

-- whatever stood behind it
unit_before : (u x rest : Text) → CUnit u (x ++ rest) → is_inside u ≡ true → CUnit u (x ++ newline ∷ [])
unit_before u [] r (unit.word v s is ends) i = unit.word u (newline ∷ []) is refl
unit_before u (b ∷ x) r (unit.word v s is ends) i = unit.word u (b ∷ x ++ newline ∷ []) is ends
unit_before u [] r (unit.number v s is ends) i = unit.number u (newline ∷ []) is refl
unit_before u (b ∷ x) r (unit.number v s is ends) i = unit.number u (b ∷ x ++ newline ∷ []) is ends
unit_before u x r (unit.block_comment v s is) i = unit.block_comment u (x ++ newline ∷ []) is
unit_before u x r (unit.line_comment v s is ends) i = absurd (false≢true (let k = (neither (is_comment u) (begins_with (newline ∷ []) u) (turn_not _ i)).0 in sym (neither (is_block_comment u) (is_line_comment u) k).1 ∙ is))
unit_before u x r (unit.quoted v s is) i = unit.quoted u (x ++ newline ∷ []) is
unit_before [] x r (unit.single v s is) i = absurd (false≢true is)
unit_before (b ∷ []) [] r (unit.single v s is) i = unit.single (b ∷ []) (newline ∷ []) (single_before b (begins_with (codes "/*") (b ∷ r)) (begins_with (codes "//") (b ∷ r)) (turn_not _ is))
unit_before (b ∷ []) (c ∷ x) r (unit.single v s is) i = unit.single (b ∷ []) (c ∷ x ++ newline ∷ []) is
unit_before (b ∷ c ∷ u) x r (unit.single v s is) i = absurd (false≢true is)

units_before : (us : List Text) (r : Text) → CUnits us r → list_all is_inside us ≡ true → CUnits us (newline ∷ [])
units_before [] r f i = tt
units_before (u ∷ us) r f i = let p = both (is_inside u) (list_all is_inside us) i in (unit_before u (concat us) r f.0 p.0, units_before us r f.1 p.1)

line_ends : (us : List Text) (text : Text) → text ≡ concat us → CUnits us (newline ∷ []) → list_all is_inside us ≡ true → NoneStarts us (newline ∷ []) → is_line_end (include_behind (text ++ newline ∷ [])) ≡ true
line_ends us text e f i n =
    ap is_line_end (ap (λ t. include_behind (t ++ newline ∷ [])) e ∙ include_complete (suc (length (concat us ++ newline ∷ []))) us (newline ∷ []) f i n refl (omega arith))

-- C text goes on to the end of the line
line_goes_on : (us : List Text) (text : Text) → text ≡ concat us → CUnits us (newline ∷ []) → NoneStarts us (newline ∷ []) → has_no_piece text ≡ true
line_goes_on us text e f n = ap has_no_piece e ∙ ap is_empty (c_stop_behind us (newline ∷ []) f n)

pub include_is : (text rest : Text) → IncludeLine text rest → is_include_line text ≡ true
include_is text rest h =
    let units = units_before h.units rest h.free h.inside in
    let none = none_before h.units rest h.free h.none in
    join h.begin (join (ap (each is_not_newline) h.whole ∙ units_line h.units rest h.free h.inside) (join (line_goes_on h.units text h.whole units none) (line_ends h.units text h.whole units h.inside none)))
