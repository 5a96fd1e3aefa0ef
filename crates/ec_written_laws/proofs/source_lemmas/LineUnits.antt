-- Where no embedded piece starts at the units of a line, none does whatever stands behind the line in its place.
use Rattle.std.proofs.Common.{◌≡◌, ℕ, Bool, true, false, not, ◌&&◌, ◌||◌, List, [], ◌∷◌, ◌++◌, drop, map, refl, sym, ap, ◌∙◌, subst, arith, append-nil, eqb-true}
use Rattle.std.specs.Prelude.{codes, nat_eq, ◌==◌}
use Rattle.std.specs.List.{concat}
use Rattle.std.proofs.lemmas.Bool.{false≢true}
use Rattle.std.proofs.lemmas.Bool.Decides.{nat_tests}
use Rattle.ec_language.specs.Letters.{Text, newline, lower, is_blank, is_digit, is_word_start, is_word_byte, is_number_byte, is_quote, is_not_newline, is_empty, begins, begins_with, same_text, same_word, skip_blanks}
use Rattle.ec_language.specs.CText.{closes_comment, closes_quote, CUnit, CUnits}
use Rattle.ec_language.specs.CText as unit
use Rattle.ec_language.specs.Pieces.{starts_piece, NoneStarts}
use Rattle.ec_language.proofs.Classes.{opened, neither, turn_not}
use Rattle.ec_language.proofs.Ends.{both}
use Rattle.ec_language.proofs.Marks.{same_text_is}
use Rattle.ec_writing_defs.proofs.Starts.{not_true, sql_at, started, Starting, starting}

-- ---- the last byte of a text

abbrev pub last_is_word : Text → Bool
last_is_word [] = false
last_is_word (b ∷ []) = is_word_byte b
last_is_word (b ∷ c ∷ t) = last_is_word (c ∷ t)

pub last_behind : (u v : Text) → last_is_word (u ++ v) ≡ false → last_is_word v ≡ false
last_behind [] v h = h
last_behind (b ∷ []) [] h = refl
last_behind (b ∷ []) (c ∷ v) h = h
last_behind (b ∷ c ∷ u) v h = last_behind (c ∷ u) v h

last_of : (u : Text) (c : ℕ) (v : Text) → last_is_word (u ++ c ∷ v) ≡ last_is_word (c ∷ v)
last_of [] c v = refl
last_of (b ∷ []) c v = refl
last_of (b ∷ d ∷ u) c v = last_of (d ∷ u) c v

-- A unit before a byte of words doesn't end with one.
unit_last : (u rest : Text) → CUnit u rest → begins is_word_byte rest ≡ true → last_is_word u ≡ false
unit_last u rest (unit.word v s is ends) h = absurd (false≢true (sym ends ∙ h))
unit_last u rest (unit.number v s is ends) h = absurd (false≢true (sym (no_word rest ends) ∙ h))
  where
    no_word : (t : Text) → begins is_number_byte t ≡ false → begins is_word_byte t ≡ false
    no_word [] e = refl
    no_word (b ∷ t) e = (neither (is_word_byte b) (b == 46) e).0
unit_last u rest (unit.block_comment v s is) h = let k = both (begins_with (codes "/*") u) (closes_comment (drop 2 u)) is in subst (λ t. last_is_word t ≡ false) (sym (opened 47 42 u k.0)) (skip (drop 2 u) (comment (drop 2 u) k.1))
  where
    skip : (t : Text) → last_is_word t ≡ false → last_is_word (47 ∷ 42 ∷ t) ≡ false
    skip [] e = refl
    skip (b ∷ t) e = e

    comment : (t : Text) → closes_comment t ≡ true → last_is_word t ≡ false
    comment [] e = refl
    comment (b ∷ []) e = absurd (false≢true e)
    comment (b ∷ c ∷ t) e = go (begins_with (codes "*/") (b ∷ c ∷ [])) refl t e (comment (c ∷ t))
      where
        go : (x : Bool) → begins_with (codes "*/") (b ∷ c ∷ []) ≡ x → (t : Text) → elim x [ true ↦ is_empty t | false ↦ closes_comment (c ∷ t) ] ≡ true → (closes_comment (c ∷ t) ≡ true → last_is_word (c ∷ t) ≡ false) → last_is_word (c ∷ t) ≡ false
        go true g [] e more = let s = same_text_is (codes "*/") (b ∷ c ∷ []) g in let k : 47 ≡ c = cc in subst (λ x. is_word_byte x ≡ false) k refl
        go true g (d ∷ t) e more = absurd (false≢true e)
        go false g t e more = more e
unit_last u [] (unit.line_comment v s is ends) h = absurd (false≢true h)
unit_last u (c ∷ rest) (unit.line_comment v s is ends) h = absurd (let e = ends in no c e h)
  where
    no : (c : ℕ) → is_not_newline c ≡ false → is_word_byte c ≡ true → ⊥
    no c e h = grind (arith, nat_tests)
unit_last [] rest (unit.quoted v s is) h = refl
unit_last (q ∷ u) rest (unit.quoted v s is) h = let k = both (is_quote q) (closes_quote q u) is in subst (λ t. t ≡ false) (sym (behind q u k.1)) (quote q (no_word q k.0) u k.1)
  where
    no_word : (q : ℕ) → is_quote q ≡ true → is_word_byte q ≡ false
    no_word q e = grind (arith, nat_tests)

    behind : (q : ℕ) (u : Text) → closes_quote q u ≡ true → last_is_word (q ∷ u) ≡ last_is_word u
    behind q [] e = absurd (false≢true e)
    behind q (b ∷ u) e = refl

    quote : (q : ℕ) → is_word_byte q ≡ false → (u : Text) → closes_quote q u ≡ true → last_is_word u ≡ false
    quote q n [] e = refl
    quote q n (b ∷ []) e = let s : b ≡ q = eqb-true _ _ e in ap is_word_byte s ∙ n
    quote q n (b ∷ c ∷ u) e = go (b == q) (b == 92) e (quote q n (c ∷ u)) (quote q n u)
      where
        go : (x y : Bool) → elim x [ true ↦ false | false ↦ elim y [ true ↦ is_not_newline c && closes_quote q u | false ↦ is_not_newline b && closes_quote q (c ∷ u) ] ] ≡ true
            → (closes_quote q (c ∷ u) ≡ true → last_is_word (c ∷ u) ≡ false) → (closes_quote q u ≡ true → last_is_word u ≡ false) → last_is_word (c ∷ u) ≡ false
        go true y k one two = absurd (false≢true k)
        go false true k one two = let p = both (is_not_newline c) (closes_quote q u) k in later u p.1 (two p.1)
          where
            later : (u : Text) → closes_quote q u ≡ true → last_is_word u ≡ false → last_is_word (c ∷ u) ≡ false
            later [] k e = absurd (false≢true k)
            later (d ∷ u) k e = e
        go false false k one two = one (both (is_not_newline b) (closes_quote q (c ∷ u)) k).1
unit_last [] rest (unit.single v s is) h = refl
unit_last (b ∷ []) rest (unit.single v s is) h = go (is_word_start b) (is_digit b) (turn_not _ is)
  where
    go : (x y : Bool) → (x || y || is_quote b || begins_with (codes "/*") (b ∷ rest) || begins_with (codes "//") (b ∷ rest)) ≡ false → (x || y) ≡ false
    go true y e = absurd (false≢true (sym e))
    go false true e = absurd (false≢true (sym e))
    go false false e = refl
unit_last (b ∷ c ∷ u) rest (unit.single v s is) h = absurd (false≢true is)

-- nor do units
units_last : (us : List Text) (rest : Text) → CUnits us rest → begins is_word_byte rest ≡ true → last_is_word (concat us) ≡ false
units_last [] rest f h = refl
units_last (u ∷ us) rest f h = go (concat us) f.0 (units_last us rest f.1 h)
  where
    go : (t : Text) → CUnit u (t ++ rest) → last_is_word t ≡ false → last_is_word (u ++ t) ≡ false
    go [] c e = ap last_is_word (append-nil u) ∙ unit_last u rest c h
    go (b ∷ t) c e = last_of u b t ∙ e

-- ---- lines

-- A piece that starts before the end of a line starts whatever stands there in its place, if that goes on with no word.
no_start_before : (v r : Text) → (begins is_word_byte r ≡ true → last_is_word v ≡ false) → starts_piece (v ++ r) ≡ false → starts_piece (v ++ newline ∷ []) ≡ false
no_start_before v r p e = not_true (starts_piece (v ++ newline ∷ [])) (λ s. go v p e (starting (v ++ newline ∷ []) s))
  where
    nothing : (p : Bool) → ((p && false) && true) ≡ false
    nothing true = refl
    nothing false = refl

    nothing_behind : (p q : Bool) → ((p && (q && false)) && true) ≡ false
    nothing_behind true q = nothing q
    nothing_behind false q = refl

    last_letter : (b c d : ℕ) → same_word (b ∷ c ∷ d ∷ []) (codes "SQL") ≡ true → is_word_byte d ≡ true
    last_letter b c d h = let k = same_text_is (map lower (b ∷ c ∷ d ∷ [])) (codes "sql") h in let l : lower d ≡ 108 = cc in letter d l
      where
        letter : (d : ℕ) → lower d ≡ 108 → is_word_byte d ≡ true
        letter d l = grind (arith, nat_tests)

    sql : (x : Text) → (begins is_word_byte r ≡ true → last_is_word x ≡ false) → sql_at (skip_blanks (x ++ newline ∷ [])) ≡ true → sql_at (skip_blanks (x ++ r)) ≡ true
    sql [] p k = absurd (false≢true k)
    sql (b ∷ x) p k = go (is_blank b) k (sql x (λ h. last_behind (b ∷ []) x (p h)))
      where
        word_ends : (c d : ℕ) → (begins is_word_byte r ≡ true → is_word_byte d ≡ false) → sql_at (b ∷ c ∷ d ∷ newline ∷ []) ≡ true → (t : Bool) → begins is_word_byte r ≡ t → sql_at (b ∷ c ∷ d ∷ r) ≡ true
        word_ends c d p k true h = absurd (false≢true (sym (p h) ∙ last_letter b c d (both (same_word (b ∷ c ∷ d ∷ []) (codes "SQL")) true k).0))
        word_ends c d p k false h = λ i. (both (same_word (b ∷ c ∷ d ∷ []) (codes "SQL")) true k).0 i && not (h i)

        at : (x : Text) → (begins is_word_byte r ≡ true → last_is_word (b ∷ x) ≡ false) → sql_at (b ∷ x ++ newline ∷ []) ≡ true → sql_at (b ∷ x ++ r) ≡ true
        at [] p k = absurd (false≢true (sym (nothing (nat_eq (lower b) 115)) ∙ k))
        at (c ∷ []) p k = absurd (false≢true (sym (nothing_behind (nat_eq (lower b) 115) (nat_eq (lower c) 113)) ∙ k))
        at (c ∷ d ∷ []) p k = word_ends c d p k (begins is_word_byte r) refl
        at (c ∷ d ∷ f ∷ x) p k = k

        go : (t : Bool) → sql_at (elim t [ true ↦ skip_blanks (x ++ newline ∷ []) | false ↦ b ∷ x ++ newline ∷ [] ]) ≡ true
            → (sql_at (skip_blanks (x ++ newline ∷ [])) ≡ true → sql_at (skip_blanks (x ++ r)) ≡ true)
            → sql_at (elim t [ true ↦ skip_blanks (x ++ r) | false ↦ b ∷ x ++ r ]) ≡ true
        go true k more = more k
        go false k more = at x p k

    blank : (x : Text) → begins is_blank (x ++ newline ∷ []) ≡ true → sql_at (skip_blanks (x ++ newline ∷ [])) ≡ true → begins is_blank (x ++ r) ≡ true
    blank [] k s = absurd (false≢true s)
    blank (b ∷ x) k s = k

    go : (v : Text) → (begins is_word_byte r ≡ true → last_is_word v ≡ false) → starts_piece (v ++ r) ≡ false → Starting (v ++ newline ∷ []) → ⊥
    go [] p e s = let k = s.exec in cc
    go (a ∷ []) p e s = let k = s.exec in cc
    go (a ∷ b ∷ []) p e s = let k = s.exec in cc
    go (a ∷ b ∷ c ∷ []) p e s = let k = s.exec in cc
    go (a ∷ b ∷ c ∷ d ∷ x) p e s = false≢true (sym e ∙ started (a ∷ b ∷ c ∷ d ∷ x ++ r) (same (a ∷ b ∷ c ∷ d ∷ []) s.exec) (blank x s.blank s.sql) (sql x (λ h. last_behind (a ∷ b ∷ c ∷ d ∷ []) x (p h)) s.sql))
      where
        same : (w : Text) → map lower w ≡ codes "exec" → same_word w (codes "EXEC") ≡ true
        same w e = ap (λ v. same_text v (codes "exec")) e

-- before the end of a line none starts at units where none starts before what stands there
pub none_before : (us : List Text) (rest : Text) → CUnits us rest → NoneStarts us rest → NoneStarts us (newline ∷ [])
none_before [] rest f n = tt
none_before (u ∷ us) rest f n = (no_start_before (u ++ concat us) rest (λ h. units_last (u ∷ us) rest f h) n.0, none_before us rest f.1 n.1)
