-- What a piece is made of doesn't depend on what stands behind it.
use Rattle.std.proofs.Common.{◌≡◌, ℕ, ◌+◌, Bool, true, false, not, ◌&&◌, List, [], ◌∷◌, ◌++◌, length, map, take, drop, Option, Some, None, refl, sym, ap, ◌∙◌, subst, arith, length-append, append_assoc, append-nil, eqb-true}
use Rattle.std.specs.Prelude.{codes, ◌==◌, nat_eq, if◌then◌else◌}
use Rattle.std.specs.List.{concat, list_any}
use Rattle.std.proofs.lemmas.List.{take_at, drop_at, take-append-drop, append_cancel_right, length-map}
use Rattle.std.specs.Cmp.Lexicographic.{as_long}
use Rattle.ec_language.specs.Letters.{Text, is_blank, is_upper, is_word_byte, is_empty, begins, each, same_text, same_word, skip_blanks, lower}
use Rattle.ec_language.specs.CText.{CUnit, word, number, block_comment, line_comment, quoted, single, CUnits}
use Rattle.ec_language.specs.SqlText.{SqlUnit, SqlUnits}
use Rattle.ec_language.specs.SqlText as sql
use Rattle.ec_language.specs.SqlTokens.{StatementUnits}
use Rattle.ec_language.specs.Pieces.{behind_start, is_semicolon, is_type_word, braces_after, ends_declaration, Declared}
use Rattle.ec_language.proofs.Ends.{both}
use Rattle.ec_language.proofs.Classes.{turn_not}
use Rattle.ec_language.proofs.Marks.{same_text_is}
use Rattle.ec_language.proofs.CUnits.{c_some}

-- ---- units look at one byte behind them

c_swap : (u : Text) (b : ℕ) (bs cs : Text) → CUnit u (b ∷ bs) → CUnit u (b ∷ cs)
c_swap u b bs cs (word v r x y) = word u (b ∷ cs) x y
c_swap u b bs cs (number v r x y) = number u (b ∷ cs) x y
c_swap u b bs cs (block_comment v r x) = block_comment u (b ∷ cs) x
c_swap u b bs cs (line_comment v r x y) = line_comment u (b ∷ cs) x y
c_swap u b bs cs (quoted v r x) = quoted u (b ∷ cs) x
c_swap [] b bs cs (single v r x) = absurd (cc)
c_swap (a ∷ []) b bs cs (single v r x) = single (a ∷ []) (b ∷ cs) x
c_swap (a ∷ c ∷ u) b bs cs (single v r x) = absurd (cc)

sql_swap : (u : Text) (b : ℕ) (bs cs : Text) → SqlUnit u (b ∷ bs) → SqlUnit u (b ∷ cs)
sql_swap u b bs cs (sql.word v r x y z) = sql.word u (b ∷ cs) x y z
sql_swap u b bs cs (sql.number v r x y) = sql.number u (b ∷ cs) x y
sql_swap u b bs cs (sql.escaped v r x y) = sql.escaped u (b ∷ cs) x y
sql_swap [] b bs cs (sql.quoted v r x y) = absurd (cc)
sql_swap (a ∷ u) b bs cs (sql.quoted v r x y) = sql.quoted (a ∷ u) (b ∷ cs) x y
sql_swap u b bs cs (sql.comment v r x) = sql.comment u (b ∷ cs) x
sql_swap u b bs cs (sql.dash_comment v r x y) = sql.dash_comment u (b ∷ cs) x y
sql_swap [] b bs cs (sql.single v r x) = absurd (cc)
sql_swap (a ∷ []) b bs cs (sql.single v r x) = sql.single (a ∷ []) (b ∷ cs) x
sql_swap (a ∷ c ∷ u) b bs cs (sql.single v r x) = absurd (cc)

-- where a text that isn't empty stands between
c_behind : (u w rest other : Text) → is_empty w ≡ false → CUnit u (w ++ rest) → CUnit u (w ++ other)
c_behind u [] rest other e unit = absurd (cc)
c_behind u (b ∷ w) rest other e unit = c_swap u b (w ++ rest) (w ++ other) unit

sql_behind : (u w rest other : Text) → is_empty w ≡ false → SqlUnit u (w ++ rest) → SqlUnit u (w ++ other)
sql_behind u [] rest other e unit = absurd (cc)
sql_behind u (b ∷ w) rest other e unit = sql_swap u b (w ++ rest) (w ++ other) unit

some_behind : (v w : Text) → is_empty w ≡ false → is_empty (v ++ w) ≡ false
some_behind [] w e = e
some_behind (b ∷ v) w e = refl

some_before : (v w : Text) → is_empty v ≡ false → is_empty (v ++ w) ≡ false
some_before [] w e = absurd (cc)
some_before (b ∷ v) w e = refl

sql_units_behind : (us : List Text) (w rest other : Text) → is_empty w ≡ false → SqlUnits us (w ++ rest) → SqlUnits us (w ++ other)
sql_units_behind [] w rest other e units = tt
sql_units_behind (u ∷ us) w rest other e units = (
  subst (SqlUnit u) (append_assoc (concat us) w other)
      (sql_behind u (concat us ++ w) rest other (some_behind (concat us) w e) (subst (SqlUnit u) (sym (append_assoc (concat us) w rest)) units.0)),
  sql_units_behind us w rest other e units.1,
)

-- ---- units of a declaration, to its end

last_unit : (u : Text) → is_semicolon u ≡ true → CUnit u []
last_unit u e = subst (λ x. CUnit x []) (sym (same_text_is u (codes ";") e)) (single (codes ";") [] refl)

declaration_units : (n : ℕ) (units : List Text) (rest : Text) → CUnits units rest → ends_declaration n units ≡ true → CUnits units []
declaration_units n [] rest free ends = tt
declaration_units n (u ∷ []) rest free ends = step (is_semicolon u) refl ends
  where
    step : (t : Bool) → is_semicolon u ≡ t → elim (t && n == 0) [ true ↦ true | false ↦ false ] ≡ true → CUnits (u ∷ []) []
    step true e k = (last_unit u e, tt)
    step false e k = absurd (cc)
declaration_units n (u ∷ v ∷ vs) rest free ends = (
  c_behind u (v ++ concat vs) rest [] (some_before v (concat vs) (c_some v (concat vs ++ rest) free.1.0)) free.0,
  step (is_semicolon u && n == 0) ends (λ h. declaration_units (braces_after n u) (v ∷ vs) rest free.1 h),
)
  where
    step : (t : Bool) → elim t [ true ↦ false | false ↦ ends_declaration (braces_after n u) (v ∷ vs) ] ≡ true → (ends_declaration (braces_after n u) (v ∷ vs) ≡ true → CUnits (v ∷ vs) []) → CUnits (v ∷ vs) []
    step true k more = absurd (cc)
    step false k more = more k

-- ---- the two words before a piece

record Start (text behind : Text) : Type 0 where
  first : Text
  gap : Text
  second : Text
  whole : text ≡ first ++ (gap ++ (second ++ behind))
  is_first : same_word first (codes "EXEC") ≡ true
  parted : begins is_blank gap ≡ true
  blank : each is_blank gap ≡ true
  is_second : same_word second (codes "SQL") ≡ true
  ends : begins is_word_byte behind ≡ false

abbrev start_test : Text → Text → Text → Text → Bool
start_test first middle second behind = same_word first (codes "EXEC") && begins is_blank middle && same_word second (codes "SQL") && not (begins is_word_byte behind)

abbrev start_of : Text → Text → Text → Text → Option Text
start_of first middle second behind =
    if start_test first middle second behind then Some behind else None

same_word_long : (a b : Text) → same_word a b ≡ true → length a ≡ length b
same_word_long a b e = sym (length-map a lower) ∙ as_long nat_eq (map lower a) (map lower b) e ∙ length-map b lower

-- the blanks with which a text begins
record Blanks (text : Text) : Type 0 where
  gap : Text
  whole : text ≡ gap ++ skip_blanks text
  blank : each is_blank gap ≡ true

blanks : (text : Text) → Blanks text
blanks [] = record { gap = []; whole = refl; blank = refl }
blanks (b ∷ bs) = step (is_blank b) refl (blanks bs)
  where
    step : (t : Bool) → is_blank b ≡ t → Blanks bs → Blanks (b ∷ bs)
    step true e s = record {
      gap = b ∷ s.gap;
      whole = ap (λ x. b ∷ x) s.whole ∙ (λ i. b ∷ s.gap ++ elim (sym e i) [ true ↦ skip_blanks bs | false ↦ b ∷ bs ]);
      blank = λ i. e i && s.blank i;
    }
    step false e s = record { gap = []; whole = λ i. elim (sym e i) [ true ↦ skip_blanks bs | false ↦ b ∷ bs ]; blank = refl }

gap_begins : (text gap : Text) → begins is_blank text ≡ true → text ≡ gap ++ skip_blanks text → begins is_blank gap ≡ true
gap_begins text (c ∷ gap) e w = ap (begins is_blank) (sym w) ∙ e
gap_begins [] [] e w = absurd (cc)
gap_begins (b ∷ bs) [] e w = absurd (omega (arith, ap length w, ap length longer, ap length s.whole, length-append s.gap (skip_blanks bs)))
  where
    s : Blanks bs
    s = blanks bs

    longer : skip_blanks (b ∷ bs) ≡ skip_blanks bs
    longer = λ i. elim (e i) [ true ↦ skip_blanks bs | false ↦ b ∷ bs ]

start_sound : (text behind : Text) → behind_start text ≡ Some behind → Start text behind
start_sound text behind h =
    step (start_test (take 4 text) (drop 4 text) (take 3 (skip_blanks (drop 4 text))) (drop 3 (skip_blanks (drop 4 text)))) refl h
  where
    step : (t : Bool) → start_test (take 4 text) (drop 4 text) (take 3 (skip_blanks (drop 4 text))) (drop 3 (skip_blanks (drop 4 text))) ≡ t
        → (if t then Some (drop 3 (skip_blanks (drop 4 text))) else None) ≡ Some behind → Start text behind
    step false e k = absurd (cc)
    step true e k =
        let middle : Text = drop 4 text in
        let tail : Text = skip_blanks middle in
        let same : drop 3 tail ≡ behind = cc in
        let three = both (same_word (take 4 text) (codes "EXEC") && begins is_blank middle && same_word (take 3 tail) (codes "SQL")) (not (begins is_word_byte (drop 3 tail))) e in
        let two = both (same_word (take 4 text) (codes "EXEC") && begins is_blank middle) (same_word (take 3 tail) (codes "SQL")) three.0 in
        let one = both (same_word (take 4 text) (codes "EXEC")) (begins is_blank middle) two.0 in
        let s = blanks middle in
        record {
          first = take 4 text;
          gap = s.gap;
          second = take 3 tail;
          whole = sym (take-append-drop 4 text) ∙ ap (λ x. take 4 text ++ x) (s.whole ∙ ap (λ x. s.gap ++ x) (sym (take-append-drop 3 tail) ∙ ap (λ x. take 3 tail ++ x) same));
          is_first = one.0;
          parted = gap_begins middle s.gap one.1 s.whole;
          blank = s.blank;
          is_second = two.1;
          ends = ap (begins is_word_byte) (sym same) ∙ turn_not (begins is_word_byte (drop 3 tail)) three.1;
        }

skip_all : (gap text : Text) → each is_blank gap ≡ true → skip_blanks (gap ++ text) ≡ skip_blanks text
skip_all [] text e = refl
skip_all (b ∷ gap) text e =
    let k = both (is_blank b) (each is_blank gap) e in
    (λ i. elim (k.0 i) [ true ↦ skip_blanks (gap ++ text) | false ↦ b ∷ gap ++ text ]) ∙ skip_all gap text k.1

-- `SQL` doesn't begin with a blank
skip_none : (second behind : Text) → same_word second (codes "SQL") ≡ true → skip_blanks (second ++ behind) ≡ second ++ behind
skip_none [] behind e = absurd (cc)
skip_none (c ∷ second) behind e =
    let k = both (lower c == 115) (same_text (map lower second) (codes "ql")) e in
    λ i. elim (letter (is_upper c) refl k.0 i) [ true ↦ skip_blanks (second ++ behind) | false ↦ c ∷ second ++ behind ]
  where
    letter : (t : Bool) → is_upper c ≡ t → (lower c == 115) ≡ true → is_blank c ≡ false
    letter true u h = let k : c + 32 ≡ 115 = eqb-true (c + 32) 115 (rw u at h) in let one : c ≡ 83 = omega arith in ap is_blank one
    letter false u h = let k : c ≡ 115 = eqb-true c 115 (rw u at h) in ap is_blank k

gap_first : (gap text : Text) → begins is_blank gap ≡ true → begins is_blank (gap ++ text) ≡ true
gap_first [] text e = absurd (cc)
gap_first (b ∷ gap) text e = e

start_complete : (text behind : Text) → Start text behind → behind_start text ≡ Some behind
start_complete text behind s =
    let long : length s.first ≡ 4 = same_word_long s.first (codes "EXEC") s.is_first in
    let three : length s.second ≡ 3 = same_word_long s.second (codes "SQL") s.is_second in
    let first : take 4 text ≡ s.first = ap (take 4) s.whole ∙ take_at s.first (s.gap ++ (s.second ++ behind)) 4 long in
    let middle : drop 4 text ≡ s.gap ++ (s.second ++ behind) = ap (drop 4) s.whole ∙ drop_at s.first (s.gap ++ (s.second ++ behind)) 4 long in
    let tail : skip_blanks (drop 4 text) ≡ s.second ++ behind = ap skip_blanks middle ∙ skip_all s.gap (s.second ++ behind) s.blank ∙ skip_none s.second behind s.is_second in
    let second : take 3 (skip_blanks (drop 4 text)) ≡ s.second = ap (take 3) tail ∙ take_at s.second behind 3 three in
    let rest : drop 3 (skip_blanks (drop 4 text)) ≡ behind = ap (drop 3) tail ∙ drop_at s.second behind 3 three in
    (λ i. start_of (first i) (middle i) (second i) (rest i))
    ∙ (λ i. if s.is_first i && gap_first s.gap (s.second ++ behind) s.parted i && s.is_second i && not (s.ends i) then Some behind else None)

-- the start of a piece, without what stands behind the piece
pub start_cut : (bytes behind rest : Text) → behind_start (bytes ++ rest) ≡ Some (behind ++ rest) → behind_start bytes ≡ Some behind
start_cut bytes behind rest h =
    let s = start_sound (bytes ++ rest) (behind ++ rest) h in
    let whole : bytes ++ rest ≡ (s.first ++ (s.gap ++ (s.second ++ behind))) ++ rest = s.whole ∙ sym (joined s.first s.gap s.second behind rest) in
    start_complete bytes behind (record {
      first = s.first;
      gap = s.gap;
      second = s.second;
      whole = append_cancel_right bytes (s.first ++ (s.gap ++ (s.second ++ behind))) rest whole;
      is_first = s.is_first;
      parted = s.parted;
      blank = s.blank;
      is_second = s.is_second;
      ends = ended behind s.ends;
    })
  where
    ended : (t : Text) → begins is_word_byte (t ++ rest) ≡ false → begins is_word_byte t ≡ false
    ended [] e = refl
    ended (b ∷ t) e = e

    joined : (a b c d e : Text) → (a ++ (b ++ (c ++ d))) ++ e ≡ a ++ (b ++ (c ++ (d ++ e)))
    joined a b c d e = simp append_assoc

-- ---- statements and declarations

pub statement_cut : (bytes rest : Text) (units : List Text) → behind_start (bytes ++ rest) ≡ Some (concat units ++ codes ";" ++ rest) → SqlUnits units (codes ";" ++ rest)
    → list_any is_semicolon units ≡ false → StatementUnits bytes units
statement_cut bytes rest units start free none = record {
  start = start_cut bytes (concat units ++ codes ";") rest start;
  free = sql_units_behind units (codes ";") rest [] refl free;
  none = none;
}

-- a type word doesn't end a declaration
no_semicolon : (u : Text) → is_type_word u ≡ true → is_semicolon u ≡ false
no_semicolon u e = step (is_semicolon u) refl
  where
    step : (t : Bool) → is_semicolon u ≡ t → t ≡ false
    step false h = refl
    step true h = absurd (let k : is_type_word (codes ";") ≡ true = subst (λ x. is_type_word x ≡ true) (same_text_is u (codes ";") h) e in cc)

pub declared_cut : (bytes rest : Text) → Declared CUnits bytes rest → Declared CUnits bytes []
declared_cut bytes rest d =
    let body : Text = d.first ++ concat d.others in
    let some : is_empty body ≡ false = some_before d.first (concat d.others) (c_some d.first (concat d.others ++ rest) d.units.0) in
    record {
      gap = d.gap;
      first = d.first;
      others = d.others;
      start = ap behind_start (append-nil bytes) ∙ start_cut bytes (concat d.gap ++ body) rest d.start ∙ ap Some (sym (append-nil (concat d.gap ++ body)));
      parted = sql_units_behind d.gap body rest [] some d.parted;
      gaps = d.gaps;
      word = sql_behind d.first (concat d.others) rest [] (more d.others d.units.1 d.ends) d.word;
      typed = d.typed;
      units = declaration_units 0 (d.first ∷ d.others) rest d.units d.ends;
      ends = d.ends;
    }
  where
    alone : (t : Bool) → t ≡ false → elim (t && true) [ true ↦ true | false ↦ false ] ≡ false
    alone true e = absurd (cc)
    alone false e = refl

    more : (us : List Text) → CUnits us rest → ends_declaration 0 (d.first ∷ us) ≡ true → is_empty (concat us) ≡ false
    more [] free ends = absurd (let k = alone (is_semicolon d.first) (no_semicolon d.first d.typed) in cc)
    more (v ∷ vs) free ends = some_before v (concat vs) (c_some v (concat vs ++ rest) free.0)
