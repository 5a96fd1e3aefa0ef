-- Units of C text: the end that is found is that of the one unit that stands there.
use Rattle.std.proofs.Common.{◌≡◌, ℕ, Bool, true, false, not, ◌&&◌, ◌||◌, inl, inr, [], ◌∷◌, ◌++◌, drop, refl, sym, ap, ◌∙◌, subst}
use Rattle.std.specs.Prelude.{codes, ◌==◌}
use Rattle.ec_language.specs.Letters.{Text, is_digit, is_word_start, is_word_byte, is_number_byte, is_quote, is_not_newline, is_empty, begins, begins_with, each, same_text}
use Rattle.ec_language.specs.CText as c
use Rattle.ec_language.specs.CText.{CUnit, is_word, is_number, is_block_comment, is_line_comment, is_quoted, is_single, closes_comment, closes_quote}
use Rattle.ec_language.specs.ReadPieces.{Behind, passed, behind_all, comment_end, quote_end, c_end}
use Rattle.ec_language.proofs.Ends.{both, join, comment_sound, comment_complete, quote_sound, quote_complete}
use Rattle.ec_language.proofs.Classes.{apart, digit_no_word, quotes, two_bytes, opened, all_sound, all_complete}

-- a unit stands at the front of the text
pub record CHere (text rest : Text) : Type 0 where
  pub unit : Text
  pub whole : text ≡ unit ++ rest
  pub is : CUnit unit rest

none_of_five : (a b c d e : Bool) → a ≡ false → b ≡ false → c ≡ false → d ≡ false → e ≡ false → not (a || b || c || d || e) ≡ true
none_of_five false false false false false p q r s t = refl
none_of_five true b c d e p q r s t = absurd (cc)
none_of_five false true c d e p q r s t = absurd (cc)
none_of_five false false true d e p q r s t = absurd (cc)
none_of_five false false false true e p q r s t = absurd (cc)
none_of_five false false false false true p q r s t = absurd (cc)

here_step : (x1 x2 x3 x4 x5 : Bool) (b : ℕ) (bs r : Text)
    → is_word_start b ≡ x1 → is_digit b ≡ x2 → is_quote b ≡ x3 → begins_with (codes "/*") (b ∷ bs) ≡ x4 → begins_with (codes "//") (b ∷ bs) ≡ x5
    → elim x1 [
      | true ↦ passed (behind_all is_word_byte bs)
      | false ↦
          elim x2 [
            | true ↦ passed (behind_all is_number_byte bs)
            | false ↦
                elim x3 [
                  | true ↦ quote_end b bs
                  | false ↦
                      elim x4 [
                        | true ↦ comment_end (drop 1 bs)
                        | false ↦
                            elim x5 [ true ↦ passed (behind_all is_not_newline (drop 1 bs)) | false ↦ passed bs ]
                      ]
                ]
          ]
    ] ≡ passed r
    → CHere (b ∷ bs) r
here_step true x2 x3 x4 x5 b bs r e1 e2 e3 e4 e5 h =
    let s = all_sound is_word_byte bs r (cc) in record { unit = b ∷ s.unit; whole = ap (λ t. b ∷ t) s.whole; is = c.word (b ∷ s.unit) r (join _ _ e1 s.fits) s.ends }
here_step false true x3 x4 x5 b bs r e1 e2 e3 e4 e5 h =
    let s = all_sound is_number_byte bs r (cc) in record { unit = b ∷ s.unit; whole = ap (λ t. b ∷ t) s.whole; is = c.number (b ∷ s.unit) r (join _ _ e2 s.fits) s.ends }
here_step false false true x4 x5 b bs r e1 e2 e3 e4 e5 h =
    let s = quote_sound b bs r h in record { unit = b ∷ s.unit; whole = ap (λ t. b ∷ t) s.whole; is = c.quoted (b ∷ s.unit) r (join _ _ e3 s.fits) }
here_step false false false true x5 b bs r e1 e2 e3 e4 e5 h =
    let s = comment_sound (drop 1 bs) r h in
    record { unit = 47 ∷ 42 ∷ s.unit; whole = two_bytes 47 42 b bs e4 ∙ ap (λ t. 47 ∷ 42 ∷ t) s.whole; is = c.block_comment (47 ∷ 42 ∷ s.unit) r s.fits }
here_step false false false false true b bs r e1 e2 e3 e4 e5 h =
    let s = all_sound is_not_newline (drop 1 bs) r (cc) in
    record { unit = 47 ∷ 47 ∷ s.unit; whole = two_bytes 47 47 b bs e5 ∙ ap (λ t. 47 ∷ 47 ∷ t) s.whole; is = c.line_comment (47 ∷ 47 ∷ s.unit) r s.fits s.ends }
here_step false false false false false b bs r e1 e2 e3 e4 e5 h =
    let same : bs ≡ r = cc in
    record { unit = b ∷ []; whole = ap (λ t. b ∷ t) same; is = c.single (b ∷ []) r (subst (λ t. is_single (b ∷ []) t ≡ true) same (none_of_five _ _ _ _ _ e1 e2 e3 e4 e5)) }

pub c_sound : (t r : Text) → c_end t ≡ passed r → CHere t r
c_sound [] r h = absurd (cc)
c_sound (b ∷ bs) r h =
    here_step (is_word_start b) (is_digit b) (is_quote b) (begins_with (codes "/*") (b ∷ bs)) (begins_with (codes "//") (b ∷ bs)) b bs r refl refl refl refl refl h

-- which of the six ends is taken
pick : (x1 x2 x3 x4 x5 : Bool) (a1 a2 a3 a4 a5 a6 : Behind) → x1 ≡ false → x2 ≡ false → x3 ≡ false → x4 ≡ false → x5 ≡ false
    → elim x1 [ true ↦ a1 | false ↦ elim x2 [ true ↦ a2 | false ↦ elim x3 [ true ↦ a3 | false ↦ elim x4 [ true ↦ a4 | false ↦ elim x5 [ true ↦ a5 | false ↦ a6 ] ] ] ] ] ≡ a6
pick x1 x2 x3 x4 x5 a1 a2 a3 a4 a5 a6 e1 e2 e3 e4 e5 = rw (e1, e2, e3, e4, e5) refl

word_end : (b : ℕ) (bs : Text) → is_word_start b ≡ true → c_end (b ∷ bs) ≡ passed (behind_all is_word_byte bs)
word_end b bs e = rw (e, c_end) refl

number_end : (b : ℕ) (bs : Text) → is_digit b ≡ true → c_end (b ∷ bs) ≡ passed (behind_all is_number_byte bs)
number_end b bs e = rw (digit_no_word b e, e, c_end) refl

quoted_end : (b : ℕ) (bs : Text) → is_quote b ≡ true → c_end (b ∷ bs) ≡ quote_end b bs
quoted_end b bs e = elim (quotes b e) [ inl h ↦ rw h refl | inr h ↦ rw h refl ]

all_five : (a b c d e : Bool) → not (a || b || c || d || e) ≡ true → (a ≡ false) × (b ≡ false) × (c ≡ false) × (d ≡ false) × (e ≡ false)
all_five false false false false false h = (refl, refl, refl, refl, refl)
all_five a b c d e h = absurd (cc)

single_end : (b : ℕ) (r : Text) → is_single (b ∷ []) r ≡ true → c_end (b ∷ r) ≡ passed r
single_end b r e =
    let n = all_five (is_word_start b) (is_digit b) (is_quote b) (begins_with (codes "/*") (b ∷ r)) (begins_with (codes "//") (b ∷ r)) e in
    pick _ _ _ _ _ _ _ _ _ _ _ n.0 n.1 n.2 n.3 n.4

block_end : (u r : Text) → is_block_comment u ≡ true → c_end (u ++ r) ≡ passed r
block_end u r f =
    let h = both (begins_with (codes "/*") u) (closes_comment (drop 2 u)) f in
    subst (λ t. c_end (t ++ r) ≡ passed r) (sym (opened 47 42 u h.0)) (comment_complete (drop 2 u) r h.1)

line_end : (u r : Text) → is_line_comment u ≡ true → begins is_not_newline r ≡ false → c_end (u ++ r) ≡ passed r
line_end u r f e =
    let h = both (begins_with (codes "//") u) (each is_not_newline u) f in
    let k = opened 47 47 u h.0 in
    let n : each is_not_newline (drop 2 u) ≡ true = subst (λ t. each is_not_newline t ≡ true) k h.1 in
    subst (λ t. c_end (t ++ r) ≡ passed r) (sym k) (ap passed (all_complete is_not_newline (drop 2 u) r n e))

pub c_complete : (u r : Text) → CUnit u r → c_end (u ++ r) ≡ passed r
c_complete _ _ (c.word [] r f e) = absurd (cc)
c_complete _ _ (c.word (b ∷ u) r f e) =
    let h = both (is_word_start b) (each is_word_byte u) f in word_end b (u ++ r) h.0 ∙ ap passed (all_complete is_word_byte u r h.1 e)
c_complete _ _ (c.number [] r f e) = absurd (cc)
c_complete _ _ (c.number (b ∷ u) r f e) =
    let h = both (is_digit b) (each is_number_byte u) f in number_end b (u ++ r) h.0 ∙ ap passed (all_complete is_number_byte u r h.1 e)
c_complete _ _ (c.block_comment u r f) = block_end u r f
c_complete _ _ (c.line_comment u r f e) = line_end u r f e
c_complete _ _ (c.quoted [] r f) = absurd (cc)
c_complete _ _ (c.quoted (b ∷ u) r f) = let h = both (is_quote b) (closes_quote b u) f in quoted_end b (u ++ r) h.0 ∙ quote_complete b u r h.1
c_complete _ _ (c.single [] r f) = absurd (cc)
c_complete _ _ (c.single (b ∷ []) r f) = single_end b r f
c_complete _ _ (c.single (b ∷ c ∷ u) r f) = absurd (cc)

-- a unit is not empty
pub c_some : (u r : Text) → CUnit u r → is_empty u ≡ false
c_some _ _ (c.word [] r f e) = absurd (cc)
c_some _ _ (c.word (b ∷ u) r f e) = refl
c_some _ _ (c.number [] r f e) = absurd (cc)
c_some _ _ (c.number (b ∷ u) r f e) = refl
c_some _ _ (c.block_comment [] r f) = absurd (cc)
c_some _ _ (c.block_comment (b ∷ u) r f) = refl
c_some _ _ (c.line_comment [] r f e) = absurd (cc)
c_some _ _ (c.line_comment (b ∷ u) r f e) = refl
c_some _ _ (c.quoted [] r f) = absurd (cc)
c_some _ _ (c.quoted (b ∷ u) r f) = refl
c_some _ _ (c.single [] r f) = absurd (cc)
c_some _ _ (c.single (b ∷ u) r f) = refl

-- ---- marks

-- a byte that is a unit of its own wherever a unit begins with it
pub record IsMark (p : ℕ) : Type 0 where
  pub no_word : is_word_start p ≡ false
  pub no_digit : is_digit p ≡ false
  pub no_quote : is_quote p ≡ false
  pub no_slash : (47 == p) ≡ false

pub first_other : (x y : Bool) → x ≡ false → (x && y) ≡ x
first_other true y e = absurd (cc)
first_other false y e = refl

pub with_true : (x : Bool) → (x && true) ≡ x
with_true true = refl
with_true false = refl

slash_other : (p : ℕ) (u r : Text) (m : IsMark p) (y : ℕ) → begins_with (47 ∷ y ∷ []) u ≡ true → same_text u (p ∷ []) ≡ begins (λ b. b == p) (u ++ r)
slash_other p u r m y e = subst (λ t. same_text t (p ∷ []) ≡ begins (λ b. b == p) (t ++ r)) (sym (opened 47 y u e)) (first_other (47 == p) _ m.no_slash)

-- whether a unit is this mark is seen at the first byte of the text
pub c_mark : (p : ℕ) (u r : Text) → IsMark p → CUnit u r → same_text u (p ∷ []) ≡ begins (λ b. b == p) (u ++ r)
c_mark p _ _ m (c.word [] r f e) = absurd (cc)
c_mark p _ _ m (c.word (b ∷ u) r f e) = first_other (b == p) _ (apart is_word_start b p ((both (is_word_start b) (each is_word_byte u) f).0) m.no_word)
c_mark p _ _ m (c.number [] r f e) = absurd (cc)
c_mark p _ _ m (c.number (b ∷ u) r f e) = first_other (b == p) _ (apart is_digit b p ((both (is_digit b) (each is_number_byte u) f).0) m.no_digit)
c_mark p _ _ m (c.block_comment u r f) = slash_other p u r m 42 ((both (begins_with (codes "/*") u) (closes_comment (drop 2 u)) f).0)
c_mark p _ _ m (c.line_comment u r f e) = slash_other p u r m 47 ((both (begins_with (codes "//") u) (each is_not_newline u) f).0)
c_mark p _ _ m (c.quoted [] r f) = absurd (cc)
c_mark p _ _ m (c.quoted (b ∷ u) r f) = first_other (b == p) _ (apart is_quote b p ((both (is_quote b) (closes_quote b u) f).0) m.no_quote)
c_mark p _ _ m (c.single [] r f) = absurd (cc)
c_mark p _ _ m (c.single (b ∷ []) r f) = with_true (b == p)
c_mark p _ _ m (c.single (b ∷ c ∷ u) r f) = absurd (cc)
