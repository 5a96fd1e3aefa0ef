-- Where the blanks and comments of SQL text stop, and where a statement ends.
use Rattle.std.proofs.Common.{◌≡◌, ℕ, zero, suc, ◌<◌, Bool, true, false, not, cond, ◌&&◌, ◌||◌, List, [], ◌∷◌, ◌++◌, length, drop, refl, sym, ap, ◌∙◌, subst, arith, append_assoc, Option, Some, None, eqb-true}
use Rattle.std.specs.Prelude.{codes, if◌then◌else◌}
use Rattle.ec_ctypes.specs.declared.text.piece.PieceKind.{PieceKind}
use Rattle.ec_ctypes.specs.declared.text.piece.PieceKind.TheVariants.{Emb, SectionStart, SectionEnd}
use Rattle.std.specs.List.{concat, list_all, list_any}
use Rattle.ec_language.specs.Letters.{Text, semicolon, same_word}
use Rattle.ec_language.specs.SqlText.{SqlUnit, SqlUnits, is_sql_gap}
use Rattle.ec_language.specs.Pieces.{is_semicolon, solid, same_words, first_is_type_word, is_type_word, kind_of}
use Rattle.ec_language.specs.ReadPieces.{Behind, passed, cut, endless, sql_end, front, Step, on, halt, walk, begins_gap, gap_step, gap_stop, begins_semicolon, statement_step, statement_end, begins_words, begins_type, statement_kind}
use Rattle.ec_language.proofs.Ends.{both, join}
use Rattle.ec_language.proofs.Classes.{neither}
use Rattle.ec_language.proofs.SqlUnits.{sql_sound, sql_complete, sql_some, sql_semicolon, sql_gap}
use Rattle.ec_language.proofs.Walks.{walk_on, walk_halt, shorter}
use Rattle.ec_language.proofs.CWalks.{front_is, unit_then}

sql_shorter : (s t : Text) → sql_end s ≡ passed t → length t < length s
sql_shorter s t e = let h = sql_sound s t e in shorter s h.unit t h.whole (sql_some h.unit t h.is)

-- ---- gaps

abbrev gap_choice : Text → Bool → Behind → Step Text Text
gap_choice s x y = elim x [ true ↦ elim y [ passed r ↦ on r | cut r ↦ halt s | endless ↦ halt s ] | false ↦ halt s ]

gap_was : (s t : Text) (x : Bool) (y : Behind) → gap_choice s x y ≡ on t → (x ≡ true) × (y ≡ passed t)
gap_was s t false y e = absurd (cc)
gap_was s t true (passed r) e = (refl, cc)
gap_was s t true (cut r) e = absurd (cc)
gap_was s t true endless e = absurd (cc)

gap_is : (s t : Text) (x : Bool) (y : Behind) → x ≡ true → y ≡ passed t → gap_choice s x y ≡ on t
gap_is s t x y p q = rw (p, q) refl

gap_down : (s t : Text) → gap_step s ≡ on t → length t < length s
gap_down s t e = sql_shorter s t ((gap_was s t (begins_gap s) (sql_end s) e).1)

pub gap_stop_on : (s t : Text) → begins_gap s ≡ true → sql_end s ≡ passed t → gap_stop s ≡ gap_stop t
gap_stop_on s t p q = walk_on gap_step [] (λ x. length x) gap_down s t (gap_is s t (begins_gap s) (sql_end s) p q)

gap_halts : (s : Text) (x : Bool) (y : Behind) → x ≡ false → gap_choice s x y ≡ halt s
gap_halts s x y p = rw p refl

pub gap_stop_solid : (s : Text) → begins_gap s ≡ false → gap_stop s ≡ s
gap_stop_solid s p = walk_halt gap_step [] (length s) s s (gap_halts s (begins_gap s) (sql_end s) p)

pub record GapStops (text rest : Text) : Type 0 where
  pub units : List Text
  pub whole : text ≡ concat units ++ rest
  pub are : SqlUnits units rest
  pub gaps : list_all is_sql_gap units ≡ true

gaps_step : (n : ℕ) (s r : Text) (x : Bool) (y : Behind) → begins_gap s ≡ x → sql_end s ≡ y
    → ((t : Text) → sql_end s ≡ passed t → walk gap_step [] n t ≡ r → GapStops t r)
    → ◌≡◌ {A = Text} (elim (gap_choice s x y) [ on t ↦ walk gap_step [] n t | halt r ↦ r ]) r → GapStops s r
gaps_step n s r false y ex ey ih e = subst (λ t. GapStops s t) e (record { units = []; whole = refl; are = tt; gaps = refl })
gaps_step n s r true (passed t) ex ey ih e =
    let k = ih t ey e in
    let h = sql_sound s t ey in
    let gap : is_sql_gap h.unit ≡ true = sql_gap h.unit t h.is ∙ ap begins_gap (sym h.whole) ∙ ex in
    record {
      units = h.unit ∷ k.units;
      whole = unit_then s h.unit t (concat k.units) r h.whole k.whole;
      are = (subst (λ x. SqlUnit h.unit x) k.whole h.is, k.are);
      gaps = join _ _ gap k.gaps;
    }
gaps_step n s r true (cut t) ex ey ih e = subst (λ t. GapStops s t) e (record { units = []; whole = refl; are = tt; gaps = refl })
gaps_step n s r true endless ex ey ih e = subst (λ t. GapStops s t) e (record { units = []; whole = refl; are = tt; gaps = refl })

gaps_up_to : (n : ℕ) (s r : Text) → length s < n → walk gap_step [] n s ≡ r → GapStops s r
gaps_up_to zero s r h e = absurd (omega arith)
gaps_up_to (suc n) s r h e =
    gaps_step n s r (begins_gap s) (sql_end s) refl refl (λ t q. let d : length t < length s = sql_shorter s t q in gaps_up_to n t r (omega arith)) e

pub gap_stops : (s : Text) → GapStops s (gap_stop s)
gap_stops s = gaps_up_to (suc (length s)) s (gap_stop s) (omega arith) refl

sql_end_at : (u : Text) (us : List Text) (r : Text) → SqlUnit u (concat us ++ r) → sql_end ((u ++ concat us) ++ r) ≡ passed (concat us ++ r)
sql_end_at u us r a = ap sql_end (append_assoc u (concat us) r) ∙ sql_complete u (concat us ++ r) a

gap_at : (u : Text) (us : List Text) (r : Text) → SqlUnit u (concat us ++ r) → is_sql_gap u ≡ begins_gap ((u ++ concat us) ++ r)
gap_at u us r a = sql_gap u (concat us ++ r) a ∙ ap begins_gap (sym (append_assoc u (concat us) r))

pub gap_stop_behind : (us : List Text) (r : Text) → SqlUnits us r → list_all is_sql_gap us ≡ true → gap_stop (concat us ++ r) ≡ gap_stop r
gap_stop_behind [] r a n = refl
gap_stop_behind (u ∷ us) r a n =
    let g = both (is_sql_gap u) (list_all is_sql_gap us) n in
    gap_stop_on ((u ++ concat us) ++ r) (concat us ++ r) (sym (gap_at u us r a.0) ∙ g.0) (sql_end_at u us r a.0) ∙ gap_stop_behind us r a.1 g.1

-- ---- statements

abbrev statement_choice : Text → Bool → Behind → Step Text (Option Text)
statement_choice s x y = elim x [ true ↦ halt (Some (drop 1 s)) | false ↦ elim y [ passed r ↦ on r | cut r ↦ halt None | endless ↦ halt None ] ]

statement_was : (s t : Text) (x : Bool) (y : Behind) → statement_choice s x y ≡ on t → (x ≡ false) × (y ≡ passed t)
statement_was s t true y e = absurd (cc)
statement_was s t false (passed r) e = (refl, cc)
statement_was s t false (cut r) e = absurd (cc)
statement_was s t false endless e = absurd (cc)

statement_is : (s t : Text) (x : Bool) (y : Behind) → x ≡ false → y ≡ passed t → statement_choice s x y ≡ on t
statement_is s t x y p q = rw (p, q) refl

statement_down : (s t : Text) → statement_step s ≡ on t → length t < length s
statement_down s t e = sql_shorter s t ((statement_was s t (begins_semicolon s) (sql_end s) e).1)

pub statement_end_on : (s t : Text) → begins_semicolon s ≡ false → sql_end s ≡ passed t → statement_end s ≡ statement_end t
statement_end_on s t p q = walk_on statement_step None (λ x. length x) statement_down s t (statement_is s t (begins_semicolon s) (sql_end s) p q)

pub statement_stop : (s : Text) → begins_semicolon s ≡ true → statement_end s ≡ Some (drop 1 s)
statement_stop s p = walk_halt statement_step None (length s) s (Some (drop 1 s)) (ap (λ x. statement_choice s x (sql_end s)) p)

pub statement_end_here : (r : Text) → statement_end (semicolon ∷ r) ≡ Some r
statement_end_here r = walk_halt statement_step None (length (semicolon ∷ r)) (semicolon ∷ r) (Some r) refl

pub record StatementEnds (text rest : Text) : Type 0 where
  pub units : List Text
  pub whole : text ≡ concat units ++ semicolon ∷ rest
  pub are : SqlUnits units (semicolon ∷ rest)
  pub none : list_any is_semicolon units ≡ false

semicolon_first : (s : Text) → begins_semicolon s ≡ true → s ≡ semicolon ∷ drop 1 s
semicolon_first [] e = absurd (cc)
semicolon_first (b ∷ s) e = ap (λ x. x ∷ s) (eqb-true b semicolon e)

none_more : (x y : Bool) → x ≡ false → y ≡ false → (x || y) ≡ false
none_more x y p q = rw (p, q) refl

ends_step : (n : ℕ) (s r : Text) (x : Bool) (y : Behind) → begins_semicolon s ≡ x → sql_end s ≡ y
    → ((t : Text) → sql_end s ≡ passed t → walk statement_step None n t ≡ Some r → StatementEnds t r)
    → ◌≡◌ {A = Option Text} (elim (statement_choice s x y) [ on t ↦ walk statement_step None n t | halt r ↦ r ]) (Some r) → StatementEnds s r
ends_step n s r true y ex ey ih e =
    let same : drop 1 s ≡ r = cc in record { units = []; whole = semicolon_first s ex ∙ ap (λ t. semicolon ∷ t) same; are = tt; none = refl }
ends_step n s r false (passed t) ex ey ih e =
    let k = ih t ey e in
    let h = sql_sound s t ey in
    let other : is_semicolon h.unit ≡ false = sql_semicolon h.unit t h.is ∙ ap begins_semicolon (sym h.whole) ∙ ex in
    record {
      units = h.unit ∷ k.units;
      whole = unit_then s h.unit t (concat k.units) (semicolon ∷ r) h.whole k.whole;
      are = (subst (λ x. SqlUnit h.unit x) k.whole h.is, k.are);
      none = none_more _ _ other k.none;
    }
ends_step n s r false (cut t) ex ey ih e = absurd (cc)
ends_step n s r false endless ex ey ih e = absurd (cc)

ends_up_to : (n : ℕ) (s r : Text) → length s < n → walk statement_step None n s ≡ Some r → StatementEnds s r
ends_up_to zero s r h e = absurd (omega arith)
ends_up_to (suc n) s r h e =
    ends_step n s r (begins_semicolon s) (sql_end s) refl refl (λ t q. let d : length t < length s = sql_shorter s t q in ends_up_to n t r (omega arith)) e

pub statement_ends : (s r : Text) → statement_end s ≡ Some r → StatementEnds s r
statement_ends s r e = ends_up_to (suc (length s)) s r (omega arith) e

semicolon_at : (u : Text) (us : List Text) (r : Text) → SqlUnit u (concat us ++ r) → is_semicolon u ≡ begins_semicolon ((u ++ concat us) ++ r)
semicolon_at u us r a = sql_semicolon u (concat us ++ r) a ∙ ap begins_semicolon (sym (append_assoc u (concat us) r))

pub statement_end_behind : (us : List Text) (r : Text) → SqlUnits us (semicolon ∷ r) → list_any is_semicolon us ≡ false → statement_end (concat us ++ semicolon ∷ r) ≡ Some r
statement_end_behind [] r a n = statement_end_here r
statement_end_behind (u ∷ us) r a n =
    let g = neither (is_semicolon u) (list_any is_semicolon us) n in
    statement_end_on ((u ++ concat us) ++ semicolon ∷ r) (concat us ++ semicolon ∷ r) (sym (semicolon_at u us (semicolon ∷ r) a.0) ∙ g.0) (sql_end_at u us (semicolon ∷ r) a.0)
    ∙ statement_end_behind us r a.1 g.1

-- ---- the first words of a statement

abbrev type_choice : Text → Behind → Bool
type_choice s x = elim x [ passed r ↦ is_type_word (front s r) | cut r ↦ false | endless ↦ false ]

pub begins_type_at : (u r : Text) → SqlUnit u r → begins_type (u ++ r) ≡ is_type_word u
begins_type_at u r a = ap (type_choice (u ++ r)) (sql_complete u r a) ∙ ap is_type_word (front_is u r)

first_solid : (x : Bool) (u : Text) (vs ws : List Text) (rest : Text) → is_sql_gap u ≡ x → begins_gap ((u ++ concat vs) ++ rest) ≡ x → SqlUnit u (concat vs ++ rest)
    → begins_type (gap_stop (concat vs ++ rest)) ≡ first_is_type_word ws
    → begins_type (gap_stop ((u ++ concat vs) ++ rest)) ≡ first_is_type_word (cond (not x) (u ∷ ws) ws)
first_solid true u vs ws rest g h a ih = ap begins_type (gap_stop_on ((u ++ concat vs) ++ rest) (concat vs ++ rest) h (sql_end_at u vs rest a)) ∙ ih
first_solid false u vs ws rest g h a ih = ap begins_type (gap_stop_solid ((u ++ concat vs) ++ rest) h ∙ append_assoc u (concat vs) rest) ∙ begins_type_at u (concat vs ++ rest) a

pub type_first : (us : List Text) (r : Text) → SqlUnits us (semicolon ∷ r) → begins_type (gap_stop (concat us ++ semicolon ∷ r)) ≡ first_is_type_word (solid us)
type_first [] r a = ap begins_type (gap_stop_solid (semicolon ∷ r) refl) ∙ ap is_type_word (front_is (semicolon ∷ []) r)
type_first (u ∷ us) r a =
    first_solid (is_sql_gap u) u us (solid us) (semicolon ∷ r) refl (sym (gap_at u us (semicolon ∷ r) a.0)) a.0 (type_first us r a.1)

-- ---- words of marks

abbrev words_choice : Text → Text → List Text → Behind → Bool
words_choice s w ws x = elim x [ passed r ↦ elim (same_word (front s r) w) [ true ↦ begins_words ws r | false ↦ false ] | cut r ↦ false | endless ↦ false ]

-- no word is a `;`
abbrev pub are_words : List Text → Bool
are_words ws = list_all (λ w. not (same_word (codes ";") w)) ws

words_from : (ws : List Text) (s t : Text) → gap_stop s ≡ gap_stop t → begins_words ws s ≡ begins_words ws t
words_from [] s t e = ap begins_semicolon e
words_from (w ∷ ws) s t e = ap (λ g. words_choice g w ws (sql_end g)) e

word_here : (x y z : Bool) → x ≡ z → elim x [ true ↦ y | false ↦ false ] ≡ (z && y)
word_here true y z e = rw (← e) refl
word_here false y z e = rw (← e) refl

words_solid : (w : Text) (ws : List Text) (u r : Text) → begins_gap (u ++ r) ≡ false → SqlUnit u r → begins_words (w ∷ ws) (u ++ r) ≡ (same_word u w && begins_words ws r)
words_solid w ws u r g a =
    ap (λ s. words_choice s w ws (sql_end s)) (gap_stop_solid (u ++ r) g) ∙ ap (words_choice (u ++ r) w ws) (sql_complete u r a)
    ∙ word_here (same_word (front (u ++ r) r) w) (begins_words ws r) (same_word u w) (ap (λ t. same_word t w) (front_is u r))

none_left : (w : Text) (ws : List Text) (r : Text) → are_words (w ∷ ws) ≡ true → begins_words (w ∷ ws) (semicolon ∷ r) ≡ false
none_left w ws r n =
    ap (λ s. words_choice s w ws (sql_end s)) (gap_stop_solid (semicolon ∷ r) refl)
    ∙ word_here (same_word (front (semicolon ∷ r) r) w) (begins_words ws r) false (ap (λ t. same_word t w) (front_is (semicolon ∷ []) r) ∙ go (same_word (codes ";") w) ((both _ _ n).0))
  where
    go : (x : Bool) → not x ≡ true → x ≡ false
    go true e = absurd (cc)
    go false e = refl

words_step : (x : Bool) (u : Text) (vs ws : List Text) (r : Text) → is_sql_gap u ≡ x → begins_gap ((u ++ concat vs) ++ semicolon ∷ r) ≡ x → SqlUnit u (concat vs ++ semicolon ∷ r)
    → is_semicolon u ≡ false → are_words ws ≡ true
    → ((ws : List Text) → are_words ws ≡ true → begins_words ws (concat vs ++ semicolon ∷ r) ≡ same_words (solid vs) ws)
    → begins_words ws ((u ++ concat vs) ++ semicolon ∷ r) ≡ same_words (cond (not x) (u ∷ solid vs) (solid vs)) ws
words_step true u vs ws r g h a s n ih =
    words_from ws ((u ++ concat vs) ++ semicolon ∷ r) (concat vs ++ semicolon ∷ r)
    (gap_stop_on ((u ++ concat vs) ++ semicolon ∷ r) (concat vs ++ semicolon ∷ r) h (sql_end_at u vs (semicolon ∷ r) a)) ∙ ih ws n
words_step false u vs [] r g h a s n ih =
    ap begins_semicolon (gap_stop_solid ((u ++ concat vs) ++ semicolon ∷ r) h) ∙ sym (semicolon_at u vs (semicolon ∷ r) a) ∙ s
words_step false u vs (w ∷ ws) r g h a s n ih =
    let k = append_assoc u (concat vs) (semicolon ∷ r) in
    ap (begins_words (w ∷ ws)) k ∙ words_solid w ws u (concat vs ++ semicolon ∷ r) (ap begins_gap (sym k) ∙ h) a ∙ ap (λ t. same_word u w && t) (ih ws ((both _ _ n).1))

pub words_are : (us ws : List Text) (r : Text) → SqlUnits us (semicolon ∷ r) → list_any is_semicolon us ≡ false → are_words ws ≡ true
    → begins_words ws (concat us ++ semicolon ∷ r) ≡ same_words (solid us) ws
words_are [] [] r a s n = ap begins_semicolon (gap_stop_solid (semicolon ∷ r) refl)
words_are [] (w ∷ ws) r a s n = none_left w ws r n
words_are (u ∷ us) ws r a s n =
    let k = neither (is_semicolon u) (list_any is_semicolon us) s in
    words_step (is_sql_gap u) u us ws r refl (sym (gap_at u us (semicolon ∷ r) a.0)) a.0 k.0 n (λ vs m. words_are us vs r a.1 k.1 m)

kinds : (x y : Bool) → elim x [ true ↦ SectionStart | false ↦ elim y [ true ↦ SectionEnd | false ↦ Emb ] ] ≡ (if x then SectionStart else if y then SectionEnd else Emb)
kinds true y = refl
kinds false true = refl
kinds false false = refl

abbrev kind_choice : Bool → Bool → PieceKind
kind_choice x y = elim x [ true ↦ SectionStart | false ↦ elim y [ true ↦ SectionEnd | false ↦ Emb ] ]

pub kind_is : (us : List Text) (r : Text) → SqlUnits us (semicolon ∷ r) → list_any is_semicolon us ≡ false → statement_kind (concat us ++ semicolon ∷ r) ≡ kind_of us
kind_is us r a s =
    ap (λ x. kind_choice x (begins_words (codes "END" ∷ codes "DECLARE" ∷ codes "SECTION" ∷ []) (concat us ++ semicolon ∷ r))) (words_are us (codes "BEGIN" ∷ codes "DECLARE" ∷ codes "SECTION" ∷ []) r a s refl)
    ∙ ap (λ y. kind_choice (same_words (solid us) (codes "BEGIN" ∷ codes "DECLARE" ∷ codes "SECTION" ∷ [])) y) (words_are us (codes "END" ∷ codes "DECLARE" ∷ codes "SECTION" ∷ []) r a s refl)
    ∙ kinds (same_words (solid us) (codes "BEGIN" ∷ codes "DECLARE" ∷ codes "SECTION" ∷ [])) (same_words (solid us) (codes "END" ∷ codes "DECLARE" ∷ codes "SECTION" ∷ []))
