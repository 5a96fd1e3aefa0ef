-- Chunks that stand apart are cut into their tokens, and are C text in which no embedded piece starts.
use Rattle.std.proofs.Common.{◌≡◌, ℕ, suc, ◌^◌, ◌<◌, ◌≤◌, Bool, true, false, not, ◌&&◌, List, [], ◌∷◌, ◌++◌, length, get_or, refl, ap, sym, ◌∙◌, subst, arith, Option, Some, None, Result, Ok, append_assoc, append-nil}
use Rattle.std.specs.Prelude.{codes, nat_le, ◌==◌, ◌||◌}
use Rattle.std.specs.List.{concat}
use Rattle.std.specs.Fmt.{decimal}
use Rattle.std.proofs.lemmas.Bool.{false≢true}
use Rattle.std.proofs.lemmas.Bool.Decides.{nat_tests}
use Rattle.std.proofs.lemmas.Fmt.{decimal_nonempty, length-decimal-le, first_decimal}
use Rattle.ec_base.specs.declared.fault.FaultKind.{FaultKind}
use Rattle.ec_base.specs.declared.stop.Stop.{Stop}
use Rattle.ec_ctypes.specs.trees.Tokens.{TokData, word_token, string_token, section_start, section_end, end_token, TokenData}
use Rattle.ec_language.specs.Letters.{Text, newline, is_blank, is_digit, is_word_start, is_number_byte, each}
use Rattle.ec_language.specs.CText.{is_number, CUnit, CUnits}
use Rattle.ec_language.specs.CText as unit
use Rattle.ec_language.specs.Pieces.{starts_piece, NoneStarts}
use Rattle.ec_language.specs.Lexemes.{is_fresh_after, is_line_number, directive_number}
use Rattle.ec_language.specs.Productions.{placed_from, section_behind}
use Rattle.ec_language.specs.Tokens.{Part, token, Step, counted, numbered_line, Item, line_behind, part_at, CParts, join_two, join_first, join_strings, with_token, numbered_within}
use Rattle.ec_language.specs.Tokens as t
use Rattle.ec_language.proofs.Ends.{both}
use Rattle.ec_writing_defs.specs.Chunks.{Chunk, the, blank, line_end, line_mark, Chunks, token_text, chunk_text, text_of, At, behind, behind_all, place_token, tokens_from}
use Rattle.ec_readback_laws.proofs.Numbers.{decimal_is}
use Rattle.ec_readback_laws.proofs.Marks.{UnitsOf, one_unit, more_units, solo, no_units, no_start}
use Rattle.ec_readback_laws.proofs.Lexing.{is_first, FitsToken, token_lexed}

-- ---- chunks that stand apart

-- a line stands here that begins with `#`, which has to be first on its line
abbrev pub begins_line : Chunks → Bool
begins_line (line_mark n ∷ cs) = true
begins_line (the x ∷ cs) = is_first x
begins_line _ = false

-- the next token is a string, which would be joined with one before it
abbrev pub begins_string : Chunks → Bool
begins_string (the (string_token s) ∷ cs) = true
begins_string (the _ ∷ cs) = false
begins_string (blank ∷ cs) = begins_string cs
begins_string (line_end ∷ cs) = begins_string cs
begins_string (line_mark n ∷ cs) = begins_string cs
begins_string [] = false

abbrev pub joins : TokData → Chunks → Bool
joins (string_token s) rest = begins_string rest
joins _ rest = false

abbrev pub Fits : Chunk → Chunks → Type 0
Fits (the t) rest = FitsToken t (text_of rest) × (begins_line rest ≡ false) × (joins t rest ≡ false)
Fits blank rest = begins_line rest ≡ false
Fits line_end rest = Unit {0}
Fits (line_mark n) rest = (0 < n) × (n < 10 ^ 9)

abbrev pub AllFit : Chunks → Type 0
AllFit [] = Unit {0}
AllFit (c ∷ cs) = Fits c cs × AllFit cs

-- ---- their parts

abbrev pub chunk_parts : At → Chunk → List Part
chunk_parts at (the t) = record { line = at.line; tok = Ok t } ∷ []
chunk_parts at _ = []

abbrev pub parts_from : At → Chunks → List Part
parts_from at [] = []
parts_from at (c ∷ cs) = chunk_parts at c ++ parts_from (behind at c) cs

fresh_last : (fresh : Bool) (bs : Text) → is_fresh_after fresh (bs ++ newline ∷ []) ≡ true
fresh_last fresh [] = refl
fresh_last fresh (b ∷ bs) = fresh_last (b == newline || (fresh && is_blank b)) bs

line_number : (n : ℕ) → 0 < n → n < 10 ^ 9 → is_line_number (decimal n) ≡ true
line_number n h l =
    let small : n < 2 ^ 64 = omega arith in
    go (decimal n) (decimal_is n small).digits (length-decimal-le 9 n (omega arith) l small) (first_decimal n h small)
  where
    go : (ds : Text) → each is_digit ds ≡ true → length ds ≤ 9 → 48 < get_or ds 0 0 → is_line_number ds ≡ true
    go [] e k f = absurd (omega arith)
    go (b ∷ ds) e k f =
        let a : nat_le (length (b ∷ ds)) 9 ≡ true = grind (arith, nat_tests) in
        let c : (b == 48) ≡ false = grind (arith, nat_tests) in
        λ i. true && a i && e i && not (c i)

pub item_parts : (line next : ℕ) (fresh : Bool) (u rest : Text) (tok : Option (Result TokData FaultKind)) (step : Step) (others : List Part) (last : ℕ)
    → Item true fresh u rest tok step → line_behind line u step ≡ next → CParts true next (is_fresh_after fresh u) rest others last
    → CParts true line fresh (u ++ rest) (part_at line tok ++ others) last
item_parts line next fresh u rest tok step others last it e more =
    t.item line fresh (u ++ rest) u rest tok step (part_at line tok ++ others) others last refl it (subst (λ n. CParts true n (is_fresh_after fresh u) rest others last) (sym e) more) refl

pub parts_all : (cs : Chunks) → AllFit cs → (at : At) (fresh : Bool) → (begins_line cs ≡ true → fresh ≡ true) → CParts true at.line fresh (text_of cs) (parts_from at cs) (behind_all at cs).line
parts_all [] f at fresh h = t.end at.line fresh
parts_all (blank ∷ cs) f at fresh h =
    item_parts at.line at.line fresh (32 ∷ []) (text_of cs) None counted (parts_from at cs) _ (t.blank fresh (32 ∷ []) (text_of cs) refl refl) (omega arith)
    (parts_all cs f.1 at (is_fresh_after fresh (32 ∷ [])) (λ e. absurd (false≢true (sym f.0 ∙ e))))
parts_all (line_end ∷ cs) f at fresh h =
    item_parts at.line (suc at.line) fresh (newline ∷ []) (text_of cs) None counted (parts_from (behind at line_end) cs) _ (t.blank fresh (newline ∷ []) (text_of cs) refl refl) (omega arith)
    (parts_all cs f.1 (behind at line_end) true (λ e. refl))
parts_all (line_mark n ∷ cs) f at fresh h =
    let small : n < 2 ^ 64 = let l = f.0.1 in omega arith in
    let line : Text = codes "#line " ++ decimal n in
    item_parts at.line n fresh (line ++ newline ∷ []) (text_of cs) None (numbered_line (directive_number line)) (parts_from (behind at (line_mark n)) cs) _
    (t.directive fresh (line ++ newline ∷ []) line (text_of cs) (h refl) refl refl (line_number n f.0.0 f.0.1)) (decimal_is n small).value
    (subst (λ b. CParts true n b (text_of cs) (parts_from (behind at (line_mark n)) cs) (behind_all (behind at (line_mark n)) cs).line) (sym (fresh_last fresh line))
    (parts_all cs f.1 (behind at (line_mark n)) true (λ e. refl)))
parts_all (the x ∷ cs) f at fresh h =
    let l = token_lexed x (text_of cs) f.0.0 in
    item_parts at.line at.line fresh (token_text x) (text_of cs) (Some (Ok x)) counted (parts_from (behind at (the x)) cs) _
    (l.item fresh h) (omega (arith, l.flat))
    (parts_all cs f.1 (behind at (the x)) (is_fresh_after fresh (token_text x)) (λ e. absurd (false≢true (sym f.0.1 ∙ e))))

-- ---- their units

concat_two : (us vs : List Text) → concat (us ++ vs) ≡ concat us ++ concat vs
concat_two [] vs = refl
concat_two (u ∷ us) vs = ap (λ t. u ++ t) (concat_two us vs) ∙ sym (append_assoc u (concat us) (concat vs))

behind_units : (us vs : List Text) (t : Text) → concat vs ≡ t → concat us ++ t ≡ concat (us ++ vs) ++ []
behind_units us vs t e = ap (λ x. concat us ++ x) (sym e) ∙ sym (concat_two us vs) ∙ sym (append-nil (concat (us ++ vs)))

units_then : (us vs : List Text) (t : Text) → concat vs ≡ t → CUnits us t → CUnits vs [] → CUnits (us ++ vs) []
units_then [] vs t e a b = b
units_then (u ∷ us) vs t e a b = (subst (λ x. CUnit u x) (behind_units us vs t e) a.0, units_then us vs t e a.1 b)

none_then : (us vs : List Text) (t : Text) → concat vs ≡ t → NoneStarts us t → NoneStarts vs [] → NoneStarts (us ++ vs) []
none_then [] vs t e a b = b
none_then (u ∷ us) vs t e a b =
    (ap starts_piece (append_assoc u (concat (us ++ vs)) [] ∙ ap (λ x. u ++ x) (sym (behind_units us vs t e)) ∙ sym (append_assoc u (concat us) t)) ∙ a.0, none_then us vs t e a.1 b)

pub units_joined : (u t : Text) → UnitsOf u t → UnitsOf t [] → UnitsOf (u ++ t) []
units_joined u t a b = record {
  units = a.units ++ b.units;
  are = concat_two a.units b.units ∙ (λ i. a.are i ++ b.are i);
  free = units_then a.units b.units t b.are a.free b.free;
  none = none_then a.units b.units t b.are a.none b.none;
}

number_unit : (n : ℕ) (rest : Text) → n < 2 ^ 64 → UnitsOf (decimal n) (newline ∷ rest)
number_unit n rest small = go (decimal n) (decimal_is n small).digits (decimal_nonempty n small)
  where
    byte : (b : ℕ) → is_digit b ≡ true → is_number_byte b ≡ true
    byte b e = grind (arith, nat_tests)

    bytes : (ds : Text) → each is_digit ds ≡ true → each is_number_byte ds ≡ true
    bytes [] e = refl
    bytes (b ∷ ds) e = let k = both (is_digit b) (each is_digit ds) e in λ i. byte b k.0 i && bytes ds k.1 i

    plain : (b : ℕ) → is_digit b ≡ true → is_word_start b ≡ false
    plain b e = grind (arith, nat_tests)

    go : (ds : Text) → each is_digit ds ≡ true → 0 < length ds → UnitsOf ds (newline ∷ rest)
    go [] e l = absurd (omega arith)
    go (b ∷ ds) e l = let k = both (is_digit b) (each is_digit ds) e in
        one_unit (b ∷ ds) (newline ∷ rest) (unit.number (b ∷ ds) (newline ∷ rest) (λ i. k.0 i && bytes ds k.1 i) refl) (no_start b (ds ++ newline ∷ rest) (plain b k.0))

mark_units : (n : ℕ) (rest : Text) → n < 2 ^ 64 → UnitsOf (chunk_text (line_mark n)) rest
mark_units n rest small =
    solo 35 (codes "line " ++ (decimal n ++ newline ∷ [])) rest refl
    (more_units (codes "line") (codes " " ++ (decimal n ++ newline ∷ [])) rest (unit.word (codes "line") ((codes " " ++ (decimal n ++ newline ∷ [])) ++ rest) refl refl) refl
    (solo 32 (decimal n ++ newline ∷ []) rest refl (digits_then (decimal n) (number_unit n rest small))))
  where
    digits_then : (ds : Text) → UnitsOf ds (newline ∷ rest) → UnitsOf (ds ++ newline ∷ []) rest
    digits_then ds a = record {
      units = a.units ++ (newline ∷ []) ∷ [];
      are = concat_two a.units ((newline ∷ []) ∷ []) ∙ (λ i. a.are i ++ newline ∷ []);
      free = free a.units a.free;
      none = none a.units a.none;
    }
      where
        same : (us : List Text) → concat us ++ newline ∷ rest ≡ concat (us ++ (newline ∷ []) ∷ []) ++ rest
        same us = sym (append_assoc (concat us) (newline ∷ []) rest) ∙ ap (λ x. x ++ rest) (sym (concat_two us ((newline ∷ []) ∷ [])))

        free : (us : List Text) → CUnits us (newline ∷ rest) → CUnits (us ++ (newline ∷ []) ∷ []) rest
        free [] a = (unit.single (newline ∷ []) rest refl, tt)
        free (u ∷ us) a = (subst (λ x. CUnit u x) (same us) a.0, free us a.1)

        none : (us : List Text) → NoneStarts us (newline ∷ rest) → NoneStarts (us ++ (newline ∷ []) ∷ []) rest
        none [] a = (refl, tt)
        none (u ∷ us) a = (ap starts_piece (append_assoc u (concat (us ++ (newline ∷ []) ∷ [])) rest ∙ ap (λ x. u ++ x) (sym (same us)) ∙ sym (append_assoc u (concat us) (newline ∷ rest))) ∙ a.0, none us a.1)

chunk_units : (c : Chunk) (cs : Chunks) → Fits c cs → UnitsOf (chunk_text c) (text_of cs)
chunk_units (the x) cs f = (token_lexed x (text_of cs) f.0).units
chunk_units blank cs f = solo 32 [] (text_of cs) refl (no_units (text_of cs))
chunk_units line_end cs f = solo newline [] (text_of cs) refl (no_units (text_of cs))
chunk_units (line_mark n) cs f = mark_units n (text_of cs) (let l = f.1 in omega arith)

pub units_all : (cs : Chunks) → AllFit cs → UnitsOf (text_of cs) []
units_all [] f = no_units []
units_all (c ∷ cs) f = units_joined (chunk_text c) (text_of cs) (chunk_units c cs f.0) (units_all cs f.1)

-- ---- their tokens

pub first_kept : (x : TokData) (cs : Chunks) (p : Part) (at : At) → p.tok ≡ Ok x → joins x cs ≡ false → join_first p (parts_from at cs) ≡ p ∷ parts_from at cs
first_kept x [] p at e j = refl
first_kept x (blank ∷ cs) p at e j = first_kept x cs p at e (skip x j)
  where
    skip : (x : TokData) → joins x (blank ∷ cs) ≡ false → joins x cs ≡ false
    skip (string_token s) h = h
    skip (word_token s) h = refl
    skip _ h = refl
first_kept x (line_end ∷ cs) p at e j = first_kept x cs p (behind at line_end) e (skip x j)
  where
    skip : (x : TokData) → joins x (line_end ∷ cs) ≡ false → joins x cs ≡ false
    skip (string_token s) h = h
    skip (word_token s) h = refl
    skip _ h = refl
first_kept x (line_mark n ∷ cs) p at e j = first_kept x cs p (behind at (line_mark n)) e (skip x j)
  where
    skip : (x : TokData) → joins x (line_mark n ∷ cs) ≡ false → joins x cs ≡ false
    skip (string_token s) h = h
    skip (word_token s) h = refl
    skip _ h = refl
first_kept x (the y ∷ cs) p at e j = ap (λ k. join_two p k (record { line = at.line; tok = Ok y }) (Ok y) (parts_from (behind at (the y)) cs)) e ∙ apart x y j
  where
    apart : (x y : TokData) → joins x (the y ∷ cs) ≡ false → join_two p (Ok x) (record { line = at.line; tok = Ok y }) (Ok y) (parts_from (behind at (the y)) cs) ≡ p ∷ record { line = at.line; tok = Ok y } ∷ parts_from (behind at (the y)) cs
    apart (string_token a) (string_token b) h = absurd (false≢true (sym h))
    apart (string_token a) (word_token b) h = refl
    apart (string_token a) _ h = refl
    apart (word_token a) y h = refl
    apart _ y h = refl

pub none_joined : (cs : Chunks) → AllFit cs → (at : At) → join_strings (parts_from at cs) ≡ parts_from at cs
none_joined [] f at = refl
none_joined (blank ∷ cs) f at = none_joined cs f.1 at
none_joined (line_end ∷ cs) f at = none_joined cs f.1 (behind at line_end)
none_joined (line_mark n ∷ cs) f at = none_joined cs f.1 (behind at (line_mark n))
none_joined (the x ∷ cs) f at =
    ap (join_first (record { line = at.line; tok = Ok x })) (none_joined cs f.1 (behind at (the x))) ∙ first_kept x cs (record { line = at.line; tok = Ok x }) (behind at (the x)) refl f.0.2

-- the tokens themselves
abbrev pub data_at : At → Chunk → List TokenData
data_at at (the x) = token x at.line at.place ∷ []
data_at at _ = []

abbrev pub data_from : At → Chunks → List TokenData
data_from at [] = []
data_from at (c ∷ cs) = data_at at c ++ data_from (behind at c) cs

pub all_numbered : (cs : Chunks) (at : At) (last : ℕ) → ◌≡◌ {A = Result (List TokenData) Stop} (numbered_within None at.place last (parts_from at cs)) (Ok (data_from at cs ++ token end_token last (behind_all at cs).place ∷ []))
all_numbered [] at last = refl
all_numbered (blank ∷ cs) at last = all_numbered cs at last
all_numbered (line_end ∷ cs) at last = all_numbered cs (behind at line_end) last
all_numbered (line_mark n ∷ cs) at last = all_numbered cs (behind at (line_mark n)) last
all_numbered (the x ∷ cs) at last = ap (with_token (token x at.line at.place)) (all_numbered cs (behind at (the x)) last)

-- no mark of a section is among them
pub all_placed : (cs : Chunks) → AllFit cs → (at : At) (e : TokenData) → placed_from false (data_from at cs ++ e ∷ []) ≡ tokens_from at cs ++ record { token = e; section = false } ∷ []
all_placed [] f at e = refl
all_placed (blank ∷ cs) f at e = all_placed cs f.1 at e
all_placed (line_end ∷ cs) f at e = all_placed cs f.1 (behind at line_end) e
all_placed (line_mark n ∷ cs) f at e = all_placed cs f.1 (behind at (line_mark n)) e
all_placed (the x ∷ cs) f at e = ap (λ w. place_token at x ∷ w) (ap (λ b. placed_from b (data_from (behind at (the x)) cs ++ e ∷ [])) (outside x (text_of cs) f.0.0) ∙ all_placed cs f.1 (behind at (the x)) e)
  where
    outside : (x : TokData) (rest : Text) → FitsToken x rest → section_behind false x ≡ false
    outside section_start rest f = absurd f
    outside section_end rest f = refl
    outside _ rest f = refl
