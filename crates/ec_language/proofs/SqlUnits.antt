-- Units of SQL text: the end that is found is that of the one unit that stands there.
use Rattle.std.proofs.Common.{◌≡◌, ℕ, Bool, true, false, not, ◌&&◌, ◌||◌, ◌⊎◌, inl, inr, [], ◌∷◌, ◌++◌, drop, refl, sym, ap, ◌∙◌, subst, arith, eqb-true}
use Rattle.std.specs.Prelude.{codes, ◌==◌}
use Rattle.std.proofs.lemmas.Bool.Decides.{nat_tests}
use Rattle.ec_language.specs.Letters.{Text, semicolon, single_quote, dot, is_blank, is_digit, is_number_byte, is_sql_word_start, is_sql_word_byte, is_quote, is_not_newline, is_empty, begins, begins_with, each, same_word}
use Rattle.ec_language.specs.SqlText as sql
use Rattle.ec_language.specs.SqlText.{SqlUnit, begins_number, is_sql_word, is_sql_number, is_sql_quoted, is_escaped, is_sql_comment, is_dash_comment, is_sql_single, is_sql_gap, closes_sql_quote, closes_escaped, closes_nested}
use Rattle.ec_language.specs.Pieces.{is_semicolon}
use Rattle.ec_language.specs.ReadPieces.{Behind, passed, behind_all, sql_quote_end, escaped_end, nested_end, begins_escaped, sql_end, begins_gap, begins_semicolon}
use Rattle.ec_language.proofs.Ends.{both, join, turned, sql_quote_sound, sql_quote_complete, escaped_sound, escaped_complete, nested_sound, nested_complete}
use Rattle.ec_language.proofs.Classes.{apart, either, number_no_sql_word, quotes, e_word, two_bytes, opened, all_sound, all_complete}
use Rattle.ec_language.proofs.CUnits.{first_other, with_true}

-- a unit stands at the front of the text
pub record SqlHere (text rest : Text) : Type 0 where
  pub unit : Text
  pub whole : text ≡ unit ++ rest
  pub is : SqlUnit unit rest

none_of_five : (a b c d e : Bool) → a ≡ false → b ≡ false → c ≡ false → d ≡ false → e ≡ false → not (a || b || c || d || e) ≡ true
none_of_five a b c d e p q r s t = rw (p, q, r, s, t) refl

all_five : (a b c d e : Bool) → not (a || b || c || d || e) ≡ true → (a ≡ false) × (b ≡ false) × (c ≡ false) × (d ≡ false) × (e ≡ false)
all_five false false false false false h = (refl, refl, refl, refl, refl)
all_five a b c d e h = absurd (cc)

no_second : (a b : Bool) → ((a && false) && b) ≡ false
no_second true b = refl
no_second false b = refl

never : (a b : Bool) → b ≡ false → (a && b) ≡ false
never true b e = e
never false b e = refl

first_false : (a b : Bool) → a ≡ false → (a && b) ≡ false
first_false true b e = absurd (cc)
first_false false b e = refl

-- a word that is not `E` before a quote
no_escape : (b : ℕ) (u r bs : Text) → bs ≡ u ++ r → begins_escaped (b ∷ bs) ≡ false → (same_word (b ∷ u) (codes "E") && begins_with (codes "'") r) ≡ false
no_escape b [] r bs w e = subst (λ t. (same_word (b ∷ []) (codes "E") && begins_with (codes "'") t) ≡ false) w e
no_escape b (d ∷ u) r bs w e = no_second _ _

no_escape_back : (b : ℕ) (u r : Text) → each is_sql_word_byte u ≡ true → (same_word (b ∷ u) (codes "E") && begins_with (codes "'") r) ≡ false → begins_escaped (b ∷ u ++ r) ≡ false
no_escape_back b [] r f e = e
no_escape_back b (d ∷ u) r f e =
    let h = both (is_sql_word_byte d) (each is_sql_word_byte u) f in
    never (same_word (b ∷ []) (codes "E")) _ (first_false (39 == d) true (turned false d 39 (apart is_sql_word_byte d 39 h.0 refl)))

not_escaped : (b : ℕ) (bs : Text) → is_sql_word_start b ≡ false → begins_escaped (b ∷ bs) ≡ false
not_escaped b bs n = first_false (same_word (b ∷ []) (codes "E")) _ (go (same_word (b ∷ []) (codes "E")) refl)
  where
    go : (x : Bool) → same_word (b ∷ []) (codes "E") ≡ x → same_word (b ∷ []) (codes "E") ≡ false
    go false e = e
    go true e = elim (e_word b e) [
      | inl h ↦ absurd (let k : is_sql_word_start 69 ≡ false = subst (λ t. is_sql_word_start t ≡ false) h n in cc)
      | inr h ↦ absurd (let k : is_sql_word_start 101 ≡ false = subst (λ t. is_sql_word_start t ≡ false) h n in cc)
    ]

one_byte : (x : ℕ) (bs : Text) → begins_with (x ∷ []) bs ≡ true → bs ≡ x ∷ drop 1 bs
one_byte x [] e = absurd (cc)
one_byte x (b ∷ bs) e = let k : x ≡ b = eqb-true x b ((both (x == b) true e).0) in ap (λ t. t ∷ bs) (sym k)

digit_goes_on : (b : ℕ) → is_digit b ≡ true → is_number_byte b ≡ true
digit_goes_on b e = grind (arith, nat_tests)

or_left : (x y : Bool) → x ≡ true → (x || y) ≡ true
or_left true y e = refl
or_left false y e = absurd (cc)

number_front : (b : ℕ) (u r : Text) → begins_number (b ∷ u ++ r) ≡ true → begins is_number_byte r ≡ false → begins_number (b ∷ u) ≡ true
number_front b (d ∷ u) r h e = h
number_front b [] r h e = elim (either (is_digit b) (b == dot && begins is_digit r) h) [ inl d ↦ or_left (is_digit b) _ d | inr d ↦ absurd (go r ((both (b == dot) (begins is_digit r) d).1) e) ]
  where
    go : (r : Text) → begins is_digit r ≡ true → begins is_number_byte r ≡ false → ⊥
    go [] p q = cc
    go (c ∷ r) p q = let k = digit_goes_on c p in cc (k, q)

number_longer : (b : ℕ) (u r : Text) → begins_number (b ∷ u) ≡ true → begins_number (b ∷ u ++ r) ≡ true
number_longer b (d ∷ u) r h = h
number_longer b [] r h = elim (either (is_digit b) (b == dot && false) h) [ inl d ↦ or_left (is_digit b) _ d | inr d ↦ absurd (let k = both (b == dot) false d in cc (k.1)) ]

here_step : (x1 x2 x3 x4 x5 x6 : Bool) (b : ℕ) (bs r : Text)
    → begins_escaped (b ∷ bs) ≡ x1 → is_sql_word_start b ≡ x2 → begins_number (b ∷ bs) ≡ x3 → is_quote b ≡ x4 → begins_with (codes "/*") (b ∷ bs) ≡ x5 → begins_with (codes "--") (b ∷ bs) ≡ x6
    → elim x1 [
      | true ↦ escaped_end (drop 1 bs)
      | false ↦
          elim x2 [
            | true ↦ passed (behind_all is_sql_word_byte bs)
            | false ↦
                elim x3 [
                  | true ↦ passed (behind_all is_number_byte bs)
                  | false ↦
                      elim x4 [
                        | true ↦ sql_quote_end b bs
                        | false ↦
                            elim x5 [
                              | true ↦ nested_end 0 (drop 1 bs)
                              | false ↦
                                  elim x6 [ true ↦ passed (behind_all is_not_newline (drop 1 bs)) | false ↦ passed bs ]
                            ]
                      ]
                ]
          ]
    ] ≡ passed r
    → SqlHere (b ∷ bs) r
here_step true x2 x3 x4 x5 x6 b bs r e1 e2 e3 e4 e5 e6 h =
    let s = escaped_sound (drop 1 bs) r h in
    let k = both (same_word (b ∷ []) (codes "E")) (begins_with (codes "'") bs) e1 in
    record {
      unit = b ∷ single_quote ∷ s.unit;
      whole = ap (λ t. b ∷ t) (one_byte single_quote bs k.1) ∙ ap (λ t. b ∷ single_quote ∷ t) s.whole;
      is = sql.escaped (b ∷ single_quote ∷ s.unit) r (join _ _ (join _ _ k.0 refl) s.fits) s.ends;
    }
here_step false true x3 x4 x5 x6 b bs r e1 e2 e3 e4 e5 e6 h =
    let s = all_sound is_sql_word_byte bs r (cc) in
    record { unit = b ∷ s.unit; whole = ap (λ t. b ∷ t) s.whole; is = sql.word (b ∷ s.unit) r (join _ _ e2 s.fits) s.ends (no_escape b s.unit r bs s.whole e1) }
here_step false false true x4 x5 x6 b bs r e1 e2 e3 e4 e5 e6 h =
    let s = all_sound is_number_byte bs r (cc) in
    let n : begins_number (b ∷ s.unit ++ r) ≡ true = subst (λ t. begins_number (b ∷ t) ≡ true) s.whole e3 in
    record { unit = b ∷ s.unit; whole = ap (λ t. b ∷ t) s.whole; is = sql.number (b ∷ s.unit) r (join _ _ (number_front b s.unit r n s.ends) s.fits) s.ends }
here_step false false false true x5 x6 b bs r e1 e2 e3 e4 e5 e6 h =
    let s = sql_quote_sound b bs r h in record { unit = b ∷ s.unit; whole = ap (λ t. b ∷ t) s.whole; is = sql.quoted (b ∷ s.unit) r (join _ _ e4 s.fits) s.ends }
here_step false false false false true x6 b bs r e1 e2 e3 e4 e5 e6 h =
    let s = nested_sound 0 (drop 1 bs) r h in
    record { unit = 47 ∷ 42 ∷ s.unit; whole = two_bytes 47 42 b bs e5 ∙ ap (λ t. 47 ∷ 42 ∷ t) s.whole; is = sql.comment (47 ∷ 42 ∷ s.unit) r s.fits }
here_step false false false false false true b bs r e1 e2 e3 e4 e5 e6 h =
    let s = all_sound is_not_newline (drop 1 bs) r (cc) in
    record { unit = 45 ∷ 45 ∷ s.unit; whole = two_bytes 45 45 b bs e6 ∙ ap (λ t. 45 ∷ 45 ∷ t) s.whole; is = sql.dash_comment (45 ∷ 45 ∷ s.unit) r s.fits s.ends }
here_step false false false false false false b bs r e1 e2 e3 e4 e5 e6 h =
    let same : bs ≡ r = cc in
    record { unit = b ∷ []; whole = ap (λ t. b ∷ t) same; is = sql.single (b ∷ []) r (subst (λ t. is_sql_single (b ∷ []) t ≡ true) same (none_of_five _ _ _ _ _ e2 e3 e4 e5 e6)) }

pub sql_sound : (t r : Text) → sql_end t ≡ passed r → SqlHere t r
sql_sound [] r h = absurd (cc)
sql_sound (b ∷ bs) r h =
    here_step (begins_escaped (b ∷ bs)) (is_sql_word_start b) (begins_number (b ∷ bs)) (is_quote b) (begins_with (codes "/*") (b ∷ bs)) (begins_with (codes "--") (b ∷ bs)) b bs r
    refl refl refl refl refl refl h

-- which of the seven ends is taken
pick : (x1 x2 x3 x4 x5 x6 : Bool) (a1 a2 a3 a4 a5 a6 a7 : Behind) → x1 ≡ false → x2 ≡ false → x3 ≡ false → x4 ≡ false → x5 ≡ false → x6 ≡ false
    → elim x1 [ true ↦ a1 | false ↦ elim x2 [ true ↦ a2 | false ↦ elim x3 [ true ↦ a3 | false ↦ elim x4 [ true ↦ a4 | false ↦ elim x5 [ true ↦ a5 | false ↦ elim x6 [ true ↦ a6 | false ↦ a7 ] ] ] ] ] ] ≡ a7
pick x1 x2 x3 x4 x5 x6 a1 a2 a3 a4 a5 a6 a7 e1 e2 e3 e4 e5 e6 = rw (e1, e2, e3, e4, e5, e6) refl

pick_first : (x1 : Bool) (a1 a2 : Behind) → x1 ≡ true → elim x1 [ true ↦ a1 | false ↦ a2 ] ≡ a1
pick_first x1 a1 a2 e1 = rw e1 refl

pick_second : (x1 x2 : Bool) (a1 a2 a3 : Behind) → x1 ≡ false → x2 ≡ true → elim x1 [ true ↦ a1 | false ↦ elim x2 [ true ↦ a2 | false ↦ a3 ] ] ≡ a2
pick_second x1 x2 a1 a2 a3 e1 e2 = rw (e1, e2) refl

pick_third : (x1 x2 x3 : Bool) (a1 a2 a3 a4 : Behind) → x1 ≡ false → x2 ≡ false → x3 ≡ true
    → elim x1 [ true ↦ a1 | false ↦ elim x2 [ true ↦ a2 | false ↦ elim x3 [ true ↦ a3 | false ↦ a4 ] ] ] ≡ a3
pick_third x1 x2 x3 a1 a2 a3 a4 e1 e2 e3 = rw (e1, e2, e3) refl

quoted_end : (b : ℕ) (bs : Text) → is_quote b ≡ true → sql_end (b ∷ bs) ≡ sql_quote_end b bs
quoted_end b bs e = elim (quotes b e) [ inl h ↦ rw h refl | inr h ↦ rw h refl ]

single_end : (b : ℕ) (r : Text) → is_sql_single (b ∷ []) r ≡ true → sql_end (b ∷ r) ≡ passed r
single_end b r e =
    let n = all_five (is_sql_word_start b) (begins_number (b ∷ r)) (is_quote b) (begins_with (codes "/*") (b ∷ r)) (begins_with (codes "--") (b ∷ r)) e in
    pick _ _ _ _ _ _ _ _ _ _ _ _ _ (not_escaped b r n.0) n.0 n.1 n.2 n.3 n.4

escaped_whole : (u r : Text) → is_escaped u ≡ true → begins_with (codes "'") r ≡ false → sql_end (u ++ r) ≡ passed r
escaped_whole [] r f e = absurd (cc)
escaped_whole (b ∷ []) r f e = absurd (let k = both (same_word (b ∷ []) (codes "E") && false) false f in cc (k.1))
escaped_whole (b ∷ c ∷ u) r f e =
    let k = both (same_word (b ∷ []) (codes "E") && begins_with (codes "'") (c ∷ u)) (closes_escaped u) f in
    pick_first _ _ _ k.0 ∙ escaped_complete u r e k.1

comment_whole : (u r : Text) → is_sql_comment u ≡ true → sql_end (u ++ r) ≡ passed r
comment_whole u r f =
    let h = both (begins_with (codes "/*") u) (closes_nested 0 (drop 2 u)) f in
    subst (λ t. sql_end (t ++ r) ≡ passed r) (sym (opened 47 42 u h.0)) (nested_complete 0 (drop 2 u) r h.1)

dash_whole : (u r : Text) → is_dash_comment u ≡ true → begins is_not_newline r ≡ false → sql_end (u ++ r) ≡ passed r
dash_whole u r f e =
    let h = both (begins_with (codes "--") u) (each is_not_newline u) f in
    let k = opened 45 45 u h.0 in
    let n : each is_not_newline (drop 2 u) ≡ true = subst (λ t. each is_not_newline t ≡ true) k h.1 in
    subst (λ t. sql_end (t ++ r) ≡ passed r) (sym k) (ap passed (all_complete is_not_newline (drop 2 u) r n e))

pub sql_complete : (u r : Text) → SqlUnit u r → sql_end (u ++ r) ≡ passed r
sql_complete _ _ (sql.word [] r f e n) = absurd (cc)
sql_complete _ _ (sql.word (b ∷ u) r f e n) =
    let h = both (is_sql_word_start b) (each is_sql_word_byte u) f in
    pick_second _ _ _ _ _ (no_escape_back b u r h.1 n) h.0 ∙ ap passed (all_complete is_sql_word_byte u r h.1 e)
sql_complete _ _ (sql.number [] r f e) = absurd (cc)
sql_complete _ _ (sql.number (b ∷ u) r f e) =
    let h = both (begins_number (b ∷ u)) (each is_number_byte u) f in
    let n = number_no_sql_word b u h.0 in
    pick_third _ _ _ _ _ _ _ (not_escaped b (u ++ r) n) n (number_longer b u r h.0) ∙ ap passed (all_complete is_number_byte u r h.1 e)
sql_complete _ _ (sql.escaped u r f e) = escaped_whole u r f e
sql_complete _ _ (sql.quoted [] r f e) = absurd (cc)
sql_complete _ _ (sql.quoted (b ∷ u) r f e) = let h = both (is_quote b) (closes_sql_quote b u) f in quoted_end b (u ++ r) h.0 ∙ sql_quote_complete b u r e h.1
sql_complete _ _ (sql.comment u r f) = comment_whole u r f
sql_complete _ _ (sql.dash_comment u r f e) = dash_whole u r f e
sql_complete _ _ (sql.single [] r f) = absurd (cc)
sql_complete _ _ (sql.single (b ∷ []) r f) = single_end b r f
sql_complete _ _ (sql.single (b ∷ c ∷ u) r f) = absurd (cc)

-- a unit is not empty
pub sql_some : (u r : Text) → SqlUnit u r → is_empty u ≡ false
sql_some _ _ (sql.word [] r f e n) = absurd (cc)
sql_some _ _ (sql.word (b ∷ u) r f e n) = refl
sql_some _ _ (sql.number [] r f e) = absurd (cc)
sql_some _ _ (sql.number (b ∷ u) r f e) = refl
sql_some _ _ (sql.escaped [] r f e) = absurd (cc)
sql_some _ _ (sql.escaped (b ∷ u) r f e) = refl
sql_some _ _ (sql.quoted [] r f e) = absurd (cc)
sql_some _ _ (sql.quoted (b ∷ u) r f e) = refl
sql_some _ _ (sql.comment [] r f) = absurd (cc)
sql_some _ _ (sql.comment (b ∷ u) r f) = refl
sql_some _ _ (sql.dash_comment [] r f e) = absurd (cc)
sql_some _ _ (sql.dash_comment (b ∷ u) r f e) = refl
sql_some _ _ (sql.single [] r f) = absurd (cc)
sql_some _ _ (sql.single (b ∷ u) r f) = refl

-- ---- semicolons and gaps

escaped_first : (b : ℕ) (u : Text) → is_escaped (b ∷ u) ≡ true → (b ≡ 69) ⊎ (b ≡ 101)
escaped_first b u f =
    let h = both (same_word (b ∷ []) (codes "E") && begins_with (codes "'") u) (closes_escaped (drop 1 u)) f in e_word b ((both (same_word (b ∷ []) (codes "E")) (begins_with (codes "'") u) h.0).0)

number_semicolon : (b : ℕ) (u : Text) → begins_number (b ∷ u) ≡ true → (b == semicolon) ≡ false
number_semicolon b u e = elim (either (is_digit b) (b == dot && begins is_digit u) e) [
  | inl d ↦ apart is_digit b semicolon d refl
  | inr d ↦ let k : b ≡ dot = eqb-true b dot ((both (b == dot) (begins is_digit u) d).0) in rw k refl
]

-- whether a unit is a `;` is seen at the first byte of the text
pub sql_semicolon : (u r : Text) → SqlUnit u r → is_semicolon u ≡ begins_semicolon (u ++ r)
sql_semicolon _ _ (sql.word [] r f e n) = absurd (cc)
sql_semicolon _ _ (sql.word (b ∷ u) r f e n) = first_other (b == semicolon) _ (apart is_sql_word_start b semicolon ((both (is_sql_word_start b) (each is_sql_word_byte u) f).0) refl)
sql_semicolon _ _ (sql.number [] r f e) = absurd (cc)
sql_semicolon _ _ (sql.number (b ∷ u) r f e) = first_other (b == semicolon) _ (number_semicolon b u ((both (begins_number (b ∷ u)) (each is_number_byte u) f).0))
sql_semicolon _ _ (sql.escaped [] r f e) = absurd (cc)
sql_semicolon _ _ (sql.escaped (b ∷ u) r f e) = first_other (b == semicolon) _ (elim (escaped_first b u f) [ inl h ↦ rw h refl | inr h ↦ rw h refl ])
sql_semicolon _ _ (sql.quoted [] r f e) = absurd (cc)
sql_semicolon _ _ (sql.quoted (b ∷ u) r f e) = first_other (b == semicolon) _ (apart is_quote b semicolon ((both (is_quote b) (closes_sql_quote b u) f).0) refl)
sql_semicolon _ _ (sql.comment u r f) =
    subst (λ t. is_semicolon t ≡ begins_semicolon (t ++ r)) (sym (opened 47 42 u ((both (begins_with (codes "/*") u) (closes_nested 0 (drop 2 u)) f).0))) refl
sql_semicolon _ _ (sql.dash_comment u r f e) =
    subst (λ t. is_semicolon t ≡ begins_semicolon (t ++ r)) (sym (opened 45 45 u ((both (begins_with (codes "--") u) (each is_not_newline u) f).0))) refl
sql_semicolon _ _ (sql.single [] r f) = absurd (cc)
sql_semicolon _ _ (sql.single (b ∷ []) r f) = with_true (b == semicolon)
sql_semicolon _ _ (sql.single (b ∷ c ∷ u) r f) = absurd (cc)

comment_off : (b : ℕ) (u : Text) → (47 == b) ≡ false → is_sql_comment (b ∷ u) ≡ false
comment_off b u e = first_false _ _ (first_false (47 == b) _ e)

dash_off : (b : ℕ) (u : Text) → (45 == b) ≡ false → is_dash_comment (b ∷ u) ≡ false
dash_off b u e = first_false _ _ (first_false (45 == b) _ e)

three_off : (x y z : Bool) → x ≡ false → y ≡ false → z ≡ false → (x || y || z) ≡ false
three_off x y z p q r = rw (p, q, r) refl

solid_first : (b : ℕ) (u r : Text) → (b == 47) ≡ false → (b == 45) ≡ false → is_blank b ≡ false → is_sql_gap (b ∷ u) ≡ begins_gap (b ∷ u ++ r)
solid_first b u r p q s =
    let slash = turned false b 47 p in
    let dash = turned false b 45 q in
    three_off _ _ _ (comment_off b u slash) (dash_off b u dash) s ∙ sym (three_off _ _ _ s (first_false (47 == b) _ slash) (first_false (45 == b) _ dash))

blank_not_word : (b : ℕ) → is_sql_word_start b ≡ true → is_blank b ≡ false
blank_not_word b e = grind (arith, nat_tests)

blank_not_digit : (b : ℕ) → is_digit b ≡ true → is_blank b ≡ false
blank_not_digit b e = grind (arith, nat_tests)

number_solid : (b : ℕ) (u r : Text) → begins_number (b ∷ u) ≡ true → is_sql_gap (b ∷ u) ≡ begins_gap (b ∷ u ++ r)
number_solid b u r e = elim (either (is_digit b) (b == dot && begins is_digit u) e) [
  | inl d ↦ solid_first b u r (apart is_digit b 47 d refl) (apart is_digit b 45 d refl) (blank_not_digit b d)
  | inr d ↦ let k : b ≡ dot = eqb-true b dot ((both (b == dot) (begins is_digit u) d).0) in solid_first b u r (rw k refl) (rw k refl) (rw k refl)
]

comment_gap : (u r : Text) → is_sql_comment u ≡ true → is_sql_gap u ≡ begins_gap (u ++ r)
comment_gap u r f =
    let k = opened 47 42 u ((both (begins_with (codes "/*") u) (closes_nested 0 (drop 2 u)) f).0) in
    let gap : is_sql_gap u ≡ true = or_left (is_sql_comment u || is_dash_comment u) _ (or_left (is_sql_comment u) _ f) in
    gap ∙ sym (subst (λ t. begins_gap (t ++ r) ≡ true) (sym k) refl)

or_right : (x y : Bool) → y ≡ true → (x || y) ≡ true
or_right true y e = refl
or_right false y e = e

dash_gap : (u r : Text) → is_dash_comment u ≡ true → is_sql_gap u ≡ begins_gap (u ++ r)
dash_gap u r f =
    let k = opened 45 45 u ((both (begins_with (codes "--") u) (each is_not_newline u) f).0) in
    let gap : is_sql_gap u ≡ true = or_left (is_sql_comment u || is_dash_comment u) _ (or_right (is_sql_comment u) _ f) in
    gap ∙ sym (subst (λ t. begins_gap (t ++ r) ≡ true) (sym k) refl)

last_of_three : (x y z : Bool) → x ≡ false → y ≡ false → (x || y || z) ≡ z
last_of_three x y z p q = rw (p, q) refl

first_of_three : (x y z : Bool) → y ≡ false → z ≡ false → (x || y || z) ≡ x
first_of_three true y z p q = refl
first_of_three false y z p q = rw (p, q) refl

single_gap : (b : ℕ) (r : Text) → is_sql_single (b ∷ []) r ≡ true → is_sql_gap (b ∷ []) ≡ begins_gap (b ∷ r)
single_gap b r e =
    let n = all_five (is_sql_word_start b) (begins_number (b ∷ r)) (is_quote b) (begins_with (codes "/*") (b ∷ r)) (begins_with (codes "--") (b ∷ r)) e in
    last_of_three _ _ (is_blank b) (never (begins_with (codes "/*") (b ∷ [])) _ refl) (first_false _ _ (never (45 == b) _ refl)) ∙ sym (first_of_three (is_blank b) _ _ n.3 n.4)

-- whether a unit is a gap is seen at the first bytes of the text
pub sql_gap : (u r : Text) → SqlUnit u r → is_sql_gap u ≡ begins_gap (u ++ r)
sql_gap _ _ (sql.word [] r f e n) = absurd (cc)
sql_gap _ _ (sql.word (b ∷ u) r f e n) =
    let h = (both (is_sql_word_start b) (each is_sql_word_byte u) f).0 in
    solid_first b u r (apart is_sql_word_start b 47 h refl) (apart is_sql_word_start b 45 h refl) (blank_not_word b h)
sql_gap _ _ (sql.number [] r f e) = absurd (cc)
sql_gap _ _ (sql.number (b ∷ u) r f e) = number_solid b u r ((both (begins_number (b ∷ u)) (each is_number_byte u) f).0)
sql_gap _ _ (sql.escaped [] r f e) = absurd (cc)
sql_gap _ _ (sql.escaped (b ∷ u) r f e) = elim (escaped_first b u f) [
  | inl h ↦ solid_first b u r (rw h refl) (rw h refl) (rw h refl)
  | inr h ↦ solid_first b u r (rw h refl) (rw h refl) (rw h refl)
]
sql_gap _ _ (sql.quoted [] r f e) = absurd (cc)
sql_gap _ _ (sql.quoted (b ∷ u) r f e) = elim (quotes b ((both (is_quote b) (closes_sql_quote b u) f).0)) [
  | inl h ↦ solid_first b u r (rw h refl) (rw h refl) (rw h refl)
  | inr h ↦ solid_first b u r (rw h refl) (rw h refl) (rw h refl)
]
sql_gap _ _ (sql.comment u r f) = comment_gap u r f
sql_gap _ _ (sql.dash_comment u r f e) = dash_gap u r f
sql_gap _ _ (sql.single [] r f) = absurd (cc)
sql_gap _ _ (sql.single (b ∷ []) r f) = single_gap b r f
sql_gap _ _ (sql.single (b ∷ c ∷ u) r f) = absurd (cc)
