-- The tokens of a statement, one unit after the other.
use Rattle.std.proofs.Common.{◌≡◌, inl, inr, ℕ, zero, suc, ◌+◌, ◌-◌, ◌≤◌, Bool, true, false, List, [], ◌∷◌, ◌++◌, length, take, drop, refl, sym, ap, ◌∙◌, subst, arith, append_assoc, append-nil, eqb-true}
use Rattle.std.specs.Prelude.{codes, ◌==◌, ◌&&◌, ◌||◌, if◌then◌else◌, Result}
use Rattle.std.specs.List.{concat}
use Rattle.ec_base.specs.declared.stop.Stop.{Stop}
use Rattle.ec_language.specs.Letters.{Text, dot, is_digit, is_sql_word_start, is_sql_word_byte, is_number_byte, is_quote, begins, begins_with, each, same_text, same_word}
use Rattle.ec_language.specs.Line.{newlines}
use Rattle.ec_language.specs.SqlText.{SqlUnit, begins_number, is_escaped, closes_escaped, is_sql_gap, is_sql_comment, is_dash_comment, closes_sql_quote, closes_nested, is_sql_single}
use Rattle.ec_language.specs.SqlText as unit
use Rattle.ec_language.specs.SqlTokens as sql
use Rattle.ec_language.specs.Tokens.{lines_before, sql_answer, SqlTokensOrStop}
use Rattle.ec_language.specs.SqlTokens.{StatementUnits, SqlToken, sql_class, are_one_mark, sql_tokens_from, first_bad_line}
use Rattle.ec_language.specs.ReadPieces.{Behind, passed, cut, endless, sql_end, front, begins_semicolon, begins_gap, begins_escaped}
use Rattle.ec_language.specs.ReadTokens.{sql_units, units_within, text_behind_start, statement_units}
use Rattle.ec_language.proofs.PieceParts.{statement_units_complete}
use Rattle.ec_clex.specs.declared.sql.SqlToken.{SqlToken as Token}
use Rattle.ec_clex.proofs.Rests.{statement_lines}
use Rattle.ec_language.proofs.Ends.{both}
use Rattle.ec_language.proofs.Classes.{e_word, number_no_sql_word, quotes, neither, turn_not, opened}
use Rattle.ec_language.proofs.CWalks.{front_is, front_of}
use Rattle.ec_language.proofs.LongestMatch.{begins_split, begins_front}
use Rattle.ec_language.proofs.Marks.{same_text_is}
use Rattle.ec_language.proofs.SqlUnits.{sql_sound}
use Rattle.ec_language.proofs.ReadSteps.{sql_units_here, sql_units_on}
use Rattle.ec_clex.specs.Items.{Told}
use Rattle.ec_clex.specs.Sql.{first_class, begins_pair, sql_views}
use Rattle.ec_clex.proofs.Units.{UnitAt, unit_on, gap_slice}
use Rattle.ec_split.proofs.Steps.{later}
use Rattle.ec_split.proofs.Walks.{front_slice}

-- ---- escaped quotes and classes of units

record Seen (u r : Text) : Type 0 where
  escaped : is_escaped u ≡ begins_escaped (u ++ r)
  class : begins_escaped (u ++ r) ≡ false → begins_gap (u ++ r) ≡ false → sql_class u ≡ first_class (u ++ r)

and_false : (x : Bool) → (x && false) ≡ false
and_false true = refl
and_false false = refl

first_no : (x y : Bool) → x ≡ false → (x && y) ≡ false
first_no true y e = absurd (cc)
first_no false y e = refl

second_no : (x y : Bool) → y ≡ false → (x && y) ≡ false
second_no true y e = e
second_no false y e = refl

not_e : (b : ℕ) → is_sql_word_start b ≡ false → same_word (b ∷ []) (codes "E") ≡ false
not_e b h = step (same_word (b ∷ []) (codes "E")) refl
  where
    step : (x : Bool) → same_word (b ∷ []) (codes "E") ≡ x → same_word (b ∷ []) (codes "E") ≡ false
    step false e = e
    step true e = absurd (elim (e_word b e) [
      | inl k ↦ let s = subst (λ c. is_sql_word_start c ≡ false) k h in cc
      | inr k ↦ let s = subst (λ c. is_sql_word_start c ≡ false) k h in cc
    ])

no_quote_byte : (c : ℕ) → is_sql_word_byte c ≡ true → (39 == c) ≡ false
no_quote_byte c h = step (39 == c) refl
  where
    step : (x : Bool) → (39 == c) ≡ x → (39 == c) ≡ false
    step false e = e
    step true e = absurd (let s = subst (λ b. is_sql_word_byte b ≡ true) (sym (eqb-true 39 c e)) h in cc)

word_seen : (b : ℕ) (u r : Text) → is_sql_word_start b ≡ true → each is_sql_word_byte u ≡ true → (same_word (b ∷ u) (codes "E") && begins_with (codes "'") r) ≡ false → Seen (b ∷ u) r
word_seen b [] r w a n = record {
  escaped = first_no (same_word (b ∷ []) (codes "E") && false) (closes_escaped []) (and_false (same_word (b ∷ []) (codes "E"))) ∙ sym n;
  class = (λ e g. (λ i. if w i && true then sql.word else if unit.is_sql_number (b ∷ []) then sql.number else if unit.is_sql_quoted (b ∷ []) then sql.quoted else sql.mark)
      ∙ sym (λ i. if w i then sql.word else if begins_number (b ∷ r) then sql.number else if is_quote b then sql.quoted else sql.mark));
}
word_seen b (c ∷ u) r w a n =
    let apart = no_quote_byte c ((both (is_sql_word_byte c) (each is_sql_word_byte u) a).0) in record {
      escaped = first_no (same_word (b ∷ []) (codes "E") && ((39 == c) && true)) (closes_escaped u) (second_no (same_word (b ∷ []) (codes "E")) ((39 == c) && true) (first_no (39 == c) true apart))
          ∙ sym (second_no (same_word (b ∷ []) (codes "E")) ((39 == c) && true) (first_no (39 == c) true apart));
      class = (λ e g. (λ i. if w i && a i then sql.word else if unit.is_sql_number (b ∷ c ∷ u) then sql.number else if unit.is_sql_quoted (b ∷ c ∷ u) then sql.quoted else sql.mark)
          ∙ sym (λ i. if w i then sql.word else if begins_number (b ∷ c ∷ u ++ r) then sql.number else if is_quote b then sql.quoted else sql.mark));
    }

plain_seen : (b : ℕ) (u r : Text) → is_sql_word_start b ≡ false → (is_escaped (b ∷ u) ≡ false) × (begins_escaped (b ∷ u ++ r) ≡ false)
plain_seen b u r w =
    let e = not_e b w in (
      first_no (same_word (b ∷ []) (codes "E") && begins_with (codes "'") u) (closes_escaped (drop 1 u)) (first_no (same_word (b ∷ []) (codes "E")) (begins_with (codes "'") u) e),
      first_no (same_word (b ∷ []) (codes "E")) (begins_with (codes "'") (u ++ r)) e,
    )

number_longer : (b : ℕ) (u r : Text) → begins_number (b ∷ u) ≡ true → begins_number (b ∷ u ++ r) ≡ true
number_longer b [] r e = step (is_digit b) (b == dot) e
  where
    step : (x y : Bool) → (x || (y && false)) ≡ true → (x || (y && begins is_digit r)) ≡ true
    step true y e = refl
    step false true e = absurd (cc)
    step false false e = absurd (cc)
number_longer b (c ∷ u) r e = e

number_seen : (b : ℕ) (u r : Text) → begins_number (b ∷ u) ≡ true → each is_number_byte u ≡ true → Seen (b ∷ u) r
number_seen b u r n a =
    let w = number_no_sql_word b u n in
    let p = plain_seen b u r w in
    let m = number_longer b u r n in record {
      escaped = p.0 ∙ sym p.1;
      class = (λ e g. (λ i. if w i && each is_sql_word_byte u then sql.word else if n i && a i then sql.number else if unit.is_sql_quoted (b ∷ u) then sql.quoted else sql.mark)
          ∙ sym (λ i. if w i then sql.word else if m i then sql.number else if is_quote b then sql.quoted else sql.mark));
    }

escaped_seen : (b : ℕ) (u r : Text) → is_escaped (b ∷ u) ≡ true → Seen (b ∷ u) r
escaped_seen b u r f =
    let h = both (same_word (b ∷ []) (codes "E") && begins_with (codes "'") u) (closes_escaped (drop 1 u)) f in
    let k = both (same_word (b ∷ []) (codes "E")) (begins_with (codes "'") u) h.0 in
    let yes : begins_escaped (b ∷ u ++ r) ≡ true = quote u k.0 k.1 in record { escaped = f ∙ sym yes; class = (λ e g. absurd (cc)) }
  where
    quote : (u : Text) → same_word (b ∷ []) (codes "E") ≡ true → begins_with (codes "'") u ≡ true → begins_escaped (b ∷ u ++ r) ≡ true
    quote [] e q = absurd (cc)
    quote (c ∷ u) e q = λ i. e i && q i

quoted_seen : (b : ℕ) (u r : Text) → is_quote b ≡ true → closes_sql_quote b u ≡ true → Seen (b ∷ u) r
quoted_seen b u r q c = elim (quotes b q) [
  | inl k ↦ subst (λ x. Seen (x ∷ u) r) (sym k) (record {
    escaped = refl;
    class = (λ e g. (λ i. if subst (λ x. closes_sql_quote x u ≡ true) k c i then sql.quoted else sql.mark));
  })
  | inr k ↦ subst (λ x. Seen (x ∷ u) r) (sym k) (record {
    escaped = refl;
    class = (λ e g. (λ i. if subst (λ x. closes_sql_quote x u ≡ true) k c i then sql.quoted else sql.mark));
  })
]

comment_seen : (u r : Text) → begins_with (codes "/*") u ≡ true → Seen u r
comment_seen u r e = subst (λ t. Seen t r) (sym (opened 47 42 u e)) (record { escaped = refl; class = (λ e g. absurd (cc)) })

dash_seen : (u r : Text) → begins_with (codes "--") u ≡ true → Seen u r
dash_seen u r e = subst (λ t. Seen t r) (sym (opened 45 45 u e)) (record { escaped = refl; class = (λ e g. absurd (cc)) })

single_seen : (b : ℕ) (r : Text) → is_sql_single (b ∷ []) r ≡ true → Seen (b ∷ []) r
single_seen b r f =
    let all = turn_not (is_sql_word_start b || begins_number (b ∷ r) || is_quote b || begins_with (codes "/*") (b ∷ r) || begins_with (codes "--") (b ∷ r)) f in
    let four = (neither (is_sql_word_start b || begins_number (b ∷ r) || is_quote b || begins_with (codes "/*") (b ∷ r)) (begins_with (codes "--") (b ∷ r)) all).0 in
    let three = (neither (is_sql_word_start b || begins_number (b ∷ r) || is_quote b) (begins_with (codes "/*") (b ∷ r)) four).0 in
    let two = neither (is_sql_word_start b || begins_number (b ∷ r)) (is_quote b) three in
    let one = neither (is_sql_word_start b) (begins_number (b ∷ r)) two.0 in
    let w = one.0 in
    let n = one.1 in
    let q = two.1 in
    let alone : begins_number (b ∷ []) ≡ false = shorter (is_digit b) (b == dot) (begins is_digit r) n in
    let p = plain_seen b [] r w in record {
      escaped = p.0 ∙ sym p.1;
      class = (λ e g. (λ i. if w i && true then sql.word else if alone i && true then sql.number else if q i && false then sql.quoted else sql.mark)
          ∙ sym (λ i. if w i then sql.word else if n i then sql.number else if q i then sql.quoted else sql.mark));
    }
  where
    shorter : (x y z : Bool) → (x || (y && z)) ≡ false → (x || (y && false)) ≡ false
    shorter true y z e = absurd (cc)
    shorter false true z e = refl
    shorter false false z e = refl

unit_seen : (u r : Text) → SqlUnit u r → Seen u r
unit_seen _ _ (unit.word [] r f e n) = absurd (cc)
unit_seen _ _ (unit.word (b ∷ u) r f e n) = let h = both (is_sql_word_start b) (each is_sql_word_byte u) f in word_seen b u r h.0 h.1 n
unit_seen _ _ (unit.number [] r f e) = absurd (cc)
unit_seen _ _ (unit.number (b ∷ u) r f e) = let h = both (begins_number (b ∷ u)) (each is_number_byte u) f in number_seen b u r h.0 h.1
unit_seen _ _ (unit.escaped [] r f e) = absurd (cc)
unit_seen _ _ (unit.escaped (b ∷ u) r f e) = escaped_seen b u r f
unit_seen _ _ (unit.quoted [] r f e) = absurd (cc)
unit_seen _ _ (unit.quoted (b ∷ u) r f e) = let h = both (is_quote b) (closes_sql_quote b u) f in quoted_seen b u r h.0 h.1
unit_seen _ _ (unit.comment u r f) = comment_seen u r ((both (begins_with (codes "/*") u) (closes_nested 0 (drop 2 u)) f).0)
unit_seen _ _ (unit.dash_comment u r f e) = dash_seen u r ((both (begins_with (codes "--") u) (each _ u) f).0)
unit_seen _ _ (unit.single [] r f) = absurd (cc)
unit_seen _ _ (unit.single (b ∷ []) r f) = single_seen b r f
unit_seen _ _ (unit.single (b ∷ c ∷ u) r f) = absurd (cc)

-- the same of a unit at an index
abbrev pub slice : Text → ℕ → ℕ → Text
slice t at end = take (end - at) (drop at t)

slice_seen : (t : Text) (at end : ℕ) → UnitAt t at end → (is_escaped (slice t at end) ≡ begins_escaped (drop at t))
    × (begins_escaped (drop at t) ≡ false → begins_gap (drop at t) ≡ false → sql_class (slice t at end) ≡ first_class (drop at t))
slice_seen t at end u =
    let h = sql_sound (drop at t) (drop end t) (sym u.behind) in
    let same : slice t at end ≡ h.unit = sym (front_slice t at end u.order u.within) ∙ front_of (drop at t) h.unit (drop end t) h.whole in
    let s = unit_seen h.unit (drop end t) h.is in (
      ap is_escaped same ∙ s.escaped ∙ ap begins_escaped (sym h.whole),
      (λ e g. ap sql_class same ∙ s.class (ap begins_escaped (sym h.whole) ∙ e) (ap begins_gap (sym h.whole) ∙ g) ∙ ap first_class (sym h.whole)),
    )

-- ---- tokens of one unit

gap_first : (g : Bool) (l : ℕ) (a : Text) (us : List Text) → is_sql_gap a ≡ true → sql_tokens_from g l (a ∷ us) ≡ sql_tokens_from true (l + newlines a) us
gap_first g l a [] e = rw (e, sql_tokens_from) refl
gap_first g l a (b ∷ us) e = rw (e, sql_tokens_from) refl

abbrev pub token_of : sql.SqlClass → Text → Bool → ℕ → SqlToken
token_of class bytes gap line = record { class = class; bytes = bytes; gap = gap; line = line }

escaped_first : (g : Bool) (l : ℕ) (a : Text) (us : List Text) → is_sql_gap a ≡ false → is_escaped a ≡ true
    → sql_tokens_from g l (a ∷ us) ≡ token_of sql.word (take 1 a) g l ∷ token_of sql.quoted (drop 1 a) false l ∷ sql_tokens_from false (l + newlines a) us
escaped_first g l a [] e f = rw (e, f, sql_tokens_from) refl
escaped_first g l a (b ∷ us) e f = rw (e, f, sql_tokens_from) refl

-- what stands first in these isn't one mark with the unit
abbrev NoMark : Text → List Text → Type 0
NoMark a [] = Unit {0}
NoMark a (b ∷ us) = are_one_mark a b ≡ false

single_first : (g : Bool) (l : ℕ) (a : Text) (us : List Text) → is_sql_gap a ≡ false → is_escaped a ≡ false → NoMark a us
    → sql_tokens_from g l (a ∷ us) ≡ token_of (sql_class a) a g l ∷ sql_tokens_from false (l + newlines a) us
single_first g l a [] e f n = rw (e, f, sql_tokens_from) refl
single_first g l a (b ∷ us) e f n = rw (e, f, n, sql_tokens_from) refl

-- ---- units at an index

pub sql_gap_on : (t : Text) (at end : ℕ) (g : Bool) (l : ℕ) → UnitAt t at end → begins_gap (drop at t) ≡ true
    → sql_tokens_from true (l + newlines (slice t at end)) (sql_units (drop end t)) ≡ sql_tokens_from g l (sql_units (drop at t))
sql_gap_on t at end g l u e =
    sym (ap (sql_tokens_from g l) (unit_on t at end u) ∙ gap_first g l (slice t at end) (sql_units (drop end t)) (gap_slice t at end u ∙ e))

pub sql_escaped_on : (t : Text) (at end : ℕ) (g : Bool) (l : ℕ) → UnitAt t at end → begins_gap (drop at t) ≡ false → begins_escaped (drop at t) ≡ true
    → token_of sql.word (take 1 (slice t at end)) g l ∷ token_of sql.quoted (drop 1 (slice t at end)) false l ∷ sql_tokens_from false (l + newlines (slice t at end)) (sql_units (drop end t))
    ≡ sql_tokens_from g l (sql_units (drop at t))
sql_escaped_on t at end g l u e f =
    sym (ap (sql_tokens_from g l) (unit_on t at end u)
    ∙ escaped_first g l (slice t at end) (sql_units (drop end t)) (gap_slice t at end u ∙ e) ((slice_seen t at end u).0 ∙ f))

-- ---- marks of two bytes

pub pair_is : (x y : ℕ) (r : Text) (g : Bool) (l : ℕ) → sql_end (x ∷ y ∷ r) ≡ passed (y ∷ r) → sql_end (y ∷ r) ≡ passed r → begins_semicolon (x ∷ y ∷ r) ≡ false → begins_semicolon (y ∷ r) ≡ false
    → sql_units (x ∷ y ∷ r) ≡ (x ∷ []) ∷ (y ∷ []) ∷ sql_units r
pair_is x y r g l a b c d =
    sql_units_on (x ∷ y ∷ r) (y ∷ r) c a ∙ ap (λ (w : Text). w ∷ sql_units (y ∷ r)) (front_is (x ∷ []) (y ∷ r))
    ∙ ap (λ (w : List Text). (x ∷ []) ∷ w) (sql_units_on (y ∷ r) r d b ∙ ap (λ (w : Text). w ∷ sql_units r) (front_is (y ∷ []) r))

record PairOn (s : Text) (g : Bool) (l : ℕ) : Type 0 where
  on : token_of sql.mark (take 2 s) g l ∷ sql_tokens_from false l (sql_units (drop 2 s)) ≡ sql_tokens_from g l (sql_units s)
  lines : newlines (take 2 s) ≡ 0

pair_on : (s : Text) (g : Bool) (l : ℕ) → begins_pair s ≡ true → PairOn s g l
pair_on s g l e = step (begins_with (codes "::") s) (begins_with (codes "->") s) refl refl e
  where
    step : (x y : Bool) → begins_with (codes "::") s ≡ x → begins_with (codes "->") s ≡ y → (x || y) ≡ true → PairOn s g l
    step true y h k e = subst (λ z. PairOn z g l) (sym (begins_split (codes "::") s h))
        (record { on = sym (ap (sql_tokens_from g l) (pair_is 58 58 (drop 2 s) g l refl refl refl refl)); lines = refl })
    step false true h k e = subst (λ z. PairOn z g l) (sym (begins_split (codes "->") s k))
        (record { on = sym (ap (sql_tokens_from g l) (pair_is 45 62 (drop 2 s) g l refl refl refl refl)); lines = refl })
    step false false h k e = absurd (cc)

pub sql_pair_on : (t : Text) (at : ℕ) (g : Bool) (l : ℕ) → begins_pair (drop at t) ≡ true
    → token_of sql.mark (take 2 (drop at t)) g l ∷ sql_tokens_from false (l + newlines (take 2 (drop at t))) (sql_units (drop (at + 2) t)) ≡ sql_tokens_from g l (sql_units (drop at t))
sql_pair_on t at g l e =
    let p = pair_on (drop at t) g l e in
    let n : l + newlines (take 2 (drop at t)) ≡ l = omega (arith, p.lines) in
    (λ i. token_of sql.mark (take 2 (drop at t)) g l ∷ sql_tokens_from false (n i) (sql_units (sym (later 2 at t) i))) ∙ p.on

-- ---- any other unit

abbrev unit_choice : Text → Bool → Behind → List Text
unit_choice s x e = elim x [ true ↦ [] | false ↦ elim e [ passed rest ↦ front s rest ∷ units_within (length s) rest | cut rest ↦ [] | endless ↦ [] ] ]

pub units_cut : (s rest : Text) → begins_semicolon s ≡ false → cut rest ≡ sql_end s → sql_units s ≡ []
units_cut s rest e k = λ i. unit_choice s (e i) (sym k i)

pub units_endless : (s : Text) → begins_semicolon s ≡ false → endless ≡ sql_end s → sql_units s ≡ []
units_endless s e k = λ i. unit_choice s (e i) (sym k i)

record Front (s b : Text) : Type 0 where
  rest : Text
  is : s ≡ b ++ rest

units_front : (s b : Text) (us : List Text) → sql_units s ≡ b ∷ us → Front s b
units_front s b us e = step (begins_semicolon s) (sql_end s) refl refl
  where
    step : (x : Bool) (k : Behind) → begins_semicolon s ≡ x → sql_end s ≡ k → Front s b
    step true k x y = absurd (let z = sql_units_here s x in cc)
    step false (passed r) x y =
        let h = sql_sound s r y in
        let on = sql_units_on s r x y in
        let same : front s r ≡ b = cc in
        record { rest = r; is = h.whole ∙ ap (λ (w : Text). w ++ r) (sym (front_of s h.unit r h.whole) ∙ same) }
    step false (cut r) x y = absurd (let z = units_cut s r x (sym y) in cc)
    step false endless x y = absurd (let z = units_endless s x (sym y) in cc)

not_both : (a b p q s r : Text) → s ≡ a ++ (b ++ r) → begins_with (p ++ q) s ≡ false → (same_text a p && same_text b q) ≡ false
not_both a b p q s r e n = step (same_text a p && same_text b q) refl
  where
    step : (x : Bool) → (same_text a p && same_text b q) ≡ x → (same_text a p && same_text b q) ≡ false
    step false h = h
    step true h = absurd
        (let k = both (same_text a p) (same_text b q) h in
        let whole : s ≡ (p ++ q) ++ r = e ∙ (λ i. same_text_is a p k.0 i ++ (same_text_is b q k.1 i ++ r)) ∙ sym (append_assoc p q r) in
        let yes : begins_with (p ++ q) s ≡ true = subst (λ z. begins_with (p ++ q) z ≡ true) (sym whole) (begins_front (p ++ q) r) in
        cc)

no_mark : (t : Text) (at end : ℕ) → UnitAt t at end → begins_pair (drop at t) ≡ false → NoMark (slice t at end) (sql_units (drop end t))
no_mark t at end u n = step (sql_units (drop end t)) refl
  where
    step : (us : List Text) → sql_units (drop end t) ≡ us → NoMark (slice t at end) us
    step [] e = tt
    step (b ∷ us) e =
        let h = sql_sound (drop at t) (drop end t) (sym u.behind) in
        let same : slice t at end ≡ h.unit = sym (front_slice t at end u.order u.within) ∙ front_of (drop at t) h.unit (drop end t) h.whole in
        let f = units_front (drop end t) b us e in
        let whole : drop at t ≡ slice t at end ++ (b ++ f.rest) = h.whole ∙ (λ i. sym same i ++ f.is i) in
        let k = neither (begins_with (codes "::") (drop at t)) (begins_with (codes "->") (drop at t)) n in
        (λ i. not_both (slice t at end) b (codes ":") (codes ":") (drop at t) f.rest whole k.0 i || not_both (slice t at end) b (codes "-") (codes ">") (drop at t) f.rest whole k.1 i)

pub sql_single_on : (t : Text) (at end : ℕ) (g : Bool) (l : ℕ) (class : sql.SqlClass) → UnitAt t at end → begins_gap (drop at t) ≡ false → begins_escaped (drop at t) ≡ false → begins_pair (drop at t) ≡ false
    → class ≡ first_class (drop at t)
    → token_of class (slice t at end) g l ∷ sql_tokens_from false (l + newlines (slice t at end)) (sql_units (drop end t)) ≡ sql_tokens_from g l (sql_units (drop at t))
sql_single_on t at end g l class u a b c e =
    let seen = slice_seen t at end u in
    ap (λ (k : sql.SqlClass). token_of k (slice t at end) g l ∷ sql_tokens_from false (l + newlines (slice t at end)) (sql_units (drop end t))) (e ∙ sym (seen.1 b a))
    ∙ sym (ap (sql_tokens_from g l) (unit_on t at end u)
    ∙ single_first g l (slice t at end) (sql_units (drop end t)) (gap_slice t at end u ∙ a) (seen.0 ∙ b) (no_mark t at end u c))

-- ---- tokens that are taken

pub one_more : (new old rest others : List SqlToken) (x : SqlToken) → new ≡ old ++ x ∷ [] → x ∷ others ≡ rest → new ++ others ≡ old ++ rest
one_more new old rest others x e f = ap (λ (w : List SqlToken). w ++ others) e ∙ append_assoc old (x ∷ []) others ∙ ap (λ (w : List SqlToken). old ++ w) f

pub none_left : (done : List SqlToken) (g : Bool) (l : ℕ) (s : Text) (all : List SqlToken) → sql_units s ≡ [] → done ++ sql_tokens_from g l (sql_units s) ≡ all → done ≡ all
none_left done g l s all e same = sym (append-nil done) ∙ ap (λ (us : List Text). done ++ sql_tokens_from g l us) (sym e) ∙ same

-- the first byte of an escaped quote, and what is behind it
pub escaped_lines : (s : Text) → begins_escaped s ≡ true → newlines (take 1 s) ≡ 0
escaped_lines [] e = absurd (cc)
escaped_lines (b ∷ s) e = elim (e_word b ((both (same_word (b ∷ []) (codes "E")) (begins_with (codes "'") s) e).0)) [
  | inl k ↦ subst (λ x. newlines (x ∷ []) ≡ 0) (sym k) refl
  | inr k ↦ subst (λ x. newlines (x ∷ []) ≡ 0) (sym k) refl
]

take_first : (s : Text) (k : ℕ) → take 1 (take (suc k) s) ≡ take 1 s
take_first [] k = refl
take_first (b ∷ s) k = refl

drop_first : (s : Text) (k : ℕ) → drop 1 (take (suc k) s) ≡ take k (drop 1 s)
drop_first [] zero = refl
drop_first [] (suc k) = refl
drop_first (b ∷ s) k = refl

first_lines : (s : Text) → newlines s ≡ newlines (take 1 s) + newlines (drop 1 s)
first_lines [] = refl
first_lines (b ∷ s) = omega arith

-- the newlines of the two slices that an escaped quote is
pub two_slices : (t : Text) (at end : ℕ) → at + 1 ≤ end
    → newlines (take (at + 1 - at) (drop at t)) + newlines (take (end - (at + 1)) (drop (at + 1) t)) ≡ newlines (slice t at end)
two_slices t at end e =
    let k : ℕ = end - (at + 1) in
    let one : at + 1 - at ≡ 1 = omega arith in
    let m : end - at ≡ suc k = omega arith in
    let first : take (at + 1 - at) (drop at t) ≡ take 1 (slice t at end) = ap (λ j. take j (drop at t)) one ∙ sym (ap (λ j. take 1 (take j (drop at t))) m ∙ take_first (drop at t) k) in
    let second : take k (drop (at + 1) t) ≡ drop 1 (slice t at end) = ap (take k) (sym (later 1 at t)) ∙ sym (ap (λ j. drop 1 (take j (drop at t))) m ∙ drop_first (drop at t) k) in
    (λ i. newlines (first i) + newlines (second i)) ∙ sym (first_lines (slice t at end))

-- an escaped quote, as two slices
pub escaped_slices : (t : Text) (at end : ℕ) (g : Bool) (l : ℕ) → UnitAt t at end → at + 1 ≤ end → begins_gap (drop at t) ≡ false → begins_escaped (drop at t) ≡ true
    → token_of sql.word (take (at + 1 - at) (drop at t)) g l ∷ token_of sql.quoted (take (end - (at + 1)) (drop (at + 1) t)) false (l + newlines (take (at + 1 - at) (drop at t)))
    ∷ sql_tokens_from false (l + newlines (take (at + 1 - at) (drop at t)) + newlines (take (end - (at + 1)) (drop (at + 1) t))) (sql_units (drop end t))
    ≡ sql_tokens_from g l (sql_units (drop at t))
escaped_slices t at end g l u h e f =
    let k : ℕ = end - (at + 1) in
    let one : at + 1 - at ≡ 1 = omega arith in
    let m : end - at ≡ suc k = omega arith in
    let first : take (at + 1 - at) (drop at t) ≡ take 1 (slice t at end) = ap (λ j. take j (drop at t)) one ∙ sym (ap (λ j. take 1 (take j (drop at t))) m ∙ take_first (drop at t) k) in
    let second : take k (drop (at + 1) t) ≡ drop 1 (slice t at end) = ap (take k) (sym (later 1 at t)) ∙ sym (ap (λ j. drop 1 (take j (drop at t))) m ∙ drop_first (drop at t) k) in
    let none : newlines (take (at + 1 - at) (drop at t)) ≡ 0 = ap (λ j. newlines (take j (drop at t))) one ∙ escaped_lines (drop at t) f in
    let here : l + newlines (take (at + 1 - at) (drop at t)) ≡ l = omega (arith, none) in
    let lines = first_lines (slice t at end) in
    let all : l + newlines (take (at + 1 - at) (drop at t)) + newlines (take k (drop (at + 1) t)) ≡ l + newlines (slice t at end) =
    omega (arith, lines, ap newlines first, ap newlines second) in
    (λ i. token_of sql.word (first i) g l ∷ token_of sql.quoted (second i) false (here i) ∷ sql_tokens_from false (all i) (sql_units (drop end t))) ∙ sql_escaped_on t at end g l u e f

-- ---- a whole statement

-- what is found in the units that are read is found in those of the statement
statement_at : {A : Type 0} (find : ℕ → List Text → A) (text bytes : Text) (from line n : ℕ) (units : List Text) → text ≡ bytes → drop from text ≡ text_behind_start text → n ≡ newlines (take from text)
    → StatementUnits bytes units → find (line + n) (sql_units (drop from text)) ≡ find (line + lines_before bytes (concat units)) units
statement_at find text bytes from line n units same behind lines are =
    subst (λ t. drop from t ≡ text_behind_start t → n ≡ newlines (take from t)
    → find (line + n) (sql_units (drop from t)) ≡ find (line + lines_before bytes (concat units)) units) (sym same) base behind lines
  where
    base : drop from bytes ≡ text_behind_start bytes → n ≡ newlines (take from bytes)
        → find (line + n) (sql_units (drop from bytes)) ≡ find (line + lines_before bytes (concat units)) units
    base e l =
        let is : statement_units bytes ≡ units = statement_units_complete bytes units are in
        let here : StatementUnits bytes (statement_units bytes) = subst (StatementUnits bytes) (sym is) are in
        let at : n ≡ lines_before bytes (concat (statement_units bytes)) = l ∙ statement_lines bytes from e here in
        (λ i. find (line + at i) (sql_units (e i))) ∙ (λ i. find (line + lines_before bytes (concat (is i))) (is i))

abbrev Answer : Type 0
Answer = Result (List SqlToken) Stop

-- what is told of the units that are read is told of those of the statement
pub statement_told : (text bytes : Text) (from line n : ℕ) (result : Result (List Token) Stop) (answer : Answer) → text ≡ bytes → drop from text ≡ text_behind_start text → n ≡ newlines (take from text)
    → Told sql_views result (sql_answer (line + n) (sql_units (drop from text))) → SqlTokensOrStop line bytes answer → Told sql_views result answer
statement_told text bytes from line n result answer same behind lines told is =
    subst (λ (a : Answer). Told sql_views result a) (statement_at sql_answer text bytes from line n is.0 same behind lines is.1 ∙ sym is.2) told
