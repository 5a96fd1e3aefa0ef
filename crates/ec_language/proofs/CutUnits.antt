-- Quotes of C text that the end of a line cuts, and texts at which no unit stands.
use Rattle.std.proofs.Common.{◌≡◌, ℕ, Bool, true, false, ◌&&◌, inl, inr, [], ◌∷◌, ◌++◌, drop, refl, ap, ◌∙◌}
use Rattle.std.specs.Prelude.{codes}
use Rattle.ec_language.specs.Letters.{Text, is_digit, is_word_start, is_word_byte, is_number_byte, is_quote, is_not_newline, begins, begins_with}
use Rattle.ec_language.specs.PieceFaults.{is_cut_quote, stays_open, NoUnit}
use Rattle.ec_language.specs.ReadPieces.{Behind, passed, cut, behind_all, comment_end, quote_end, c_end}
use Rattle.ec_language.proofs.Ends.{both, join, cut_sound, cut_complete, begins_newline}
use Rattle.ec_language.proofs.Classes.{quotes, plain_quote}
use Rattle.ec_language.proofs.CUnits.{c_sound, c_complete}
use Rattle.ec_language.proofs.CWalks.{NoEnd}

comment_choice : (x : Bool) (c : ℕ) (bs r : Text) → (comment_end (c ∷ bs) ≡ cut r → ⊥) → elim x [ true ↦ passed bs | false ↦ comment_end (c ∷ bs) ] ≡ cut r → ⊥
comment_choice true c bs r ih e = cc
comment_choice false c bs r ih e = ih e

comment_not_cut : (t r : Text) → comment_end t ≡ cut r → ⊥
comment_not_cut [] r e = cc
comment_not_cut (b ∷ []) r e = cc
comment_not_cut (b ∷ c ∷ bs) r e = comment_choice (begins_with (codes "*/") (b ∷ c ∷ [])) c bs r (comment_not_cut (c ∷ bs) r) e

pub record CutHere (text rest : Text) : Type 0 where
  pub unit : Text
  pub whole : text ≡ unit ++ rest
  pub is : is_cut_quote unit rest ≡ true

cut_step : (x1 x2 x3 x4 x5 : Bool) (b : ℕ) (bs r : Text) → is_quote b ≡ x3
    → elim x1 [
      | true ↦ passed (behind_all is_word_byte bs)
      | false ↦
          elim x2 [
            | true ↦ passed (behind_all is_number_byte bs)
            | false ↦
                elim x3 [
                  | true ↦ quote_end b bs
                  | false ↦
                      elim x4 [
                        | true ↦ comment_end (drop 1 bs)
                        | false ↦
                            elim x5 [ true ↦ passed (behind_all is_not_newline (drop 1 bs)) | false ↦ passed bs ]
                      ]
                ]
          ]
    ] ≡ cut r
    → CutHere (b ∷ bs) r
cut_step true x2 x3 x4 x5 b bs r e3 h = absurd (cc)
cut_step false true x3 x4 x5 b bs r e3 h = absurd (cc)
cut_step false false true x4 x5 b bs r e3 h = let s = cut_sound b bs r h in record { unit = b ∷ s.unit; whole = ap (λ t. b ∷ t) s.whole; is = join _ _ (join _ _ e3 s.fits) s.before }
cut_step false false false true x5 b bs r e3 h = absurd (comment_not_cut (drop 1 bs) r h)
cut_step false false false false true b bs r e3 h = absurd (cc)
cut_step false false false false false b bs r e3 h = absurd (cc)

pub cut_unit_sound : (t r : Text) → c_end t ≡ cut r → CutHere t r
cut_unit_sound [] r h = absurd (cc)
cut_unit_sound (b ∷ bs) r h = cut_step (is_word_start b) (is_digit b) (is_quote b) (begins_with (codes "/*") (b ∷ bs)) (begins_with (codes "//") (b ∷ bs)) b bs r refl h

pub quoted_end : (b : ℕ) (bs : Text) → is_quote b ≡ true → c_end (b ∷ bs) ≡ quote_end b bs
quoted_end b bs e = elim (quotes b e) [ inl h ↦ rw h refl | inr h ↦ rw h refl ]

pub cut_unit_complete : (u r : Text) → is_cut_quote u r ≡ true → c_end (u ++ r) ≡ cut r
cut_unit_complete [] r e = absurd (cc)
cut_unit_complete (b ∷ u) r e =
    let h = both (is_quote b && stays_open b u) (begins_newline r) e in
    let k = both (is_quote b) (stays_open b u) h.0 in
    quoted_end b (u ++ r) k.0 ∙ cut_complete b u r (plain_quote b k.0) h.1 k.1

pub cut_unit_quote : (u r : Text) → is_cut_quote u r ≡ true → begins is_quote u ≡ true
cut_unit_quote [] r e = absurd (cc)
cut_unit_quote (b ∷ u) r e = (both (is_quote b) (stays_open b u) ((both (is_quote b && stays_open b u) (begins_newline r) e).0)).0

-- ---- no unit

pub no_unit : (t : Text) → NoEnd t → NoUnit t
no_unit t n u r e a = n r (ap c_end e ∙ c_complete u r a)

pub no_end : (t : Text) → NoUnit t → NoEnd t
no_end t n r e = let h = c_sound t r e in n h.unit r h.whole h.is

stuck_step : (x1 x2 x3 x4 x5 : Bool) (b : ℕ) (bs : Text)
    → ((r : Text) → ◌≡◌ {A = Behind} (elim x1 [
      | true ↦ passed (behind_all is_word_byte bs)
      | false ↦
          elim x2 [
            | true ↦ passed (behind_all is_number_byte bs)
            | false ↦
                elim x3 [
                  | true ↦ quote_end b bs
                  | false ↦
                      elim x4 [
                        | true ↦ comment_end (drop 1 bs)
                        | false ↦
                            elim x5 [ true ↦ passed (behind_all is_not_newline (drop 1 bs)) | false ↦ passed bs ]
                      ]
                ]
          ]
    ]) (passed r) → ⊥)
    → x4 ≡ false → x3 ≡ true
stuck_step true x2 x3 x4 x5 b bs n e = absurd (n _ refl)
stuck_step false true x3 x4 x5 b bs n e = absurd (n _ refl)
stuck_step false false true x4 x5 b bs n e = refl
stuck_step false false false true x5 b bs n e = absurd (cc)
stuck_step false false false false true b bs n e = absurd (n _ refl)
stuck_step false false false false false b bs n e = absurd (n _ refl)

-- where no unit stands, a comment or a quote begins
pub stuck_quote : (b : ℕ) (bs : Text) → NoEnd (b ∷ bs) → begins_with (codes "/*") (b ∷ bs) ≡ false → is_quote b ≡ true
stuck_quote b bs n e = stuck_step (is_word_start b) (is_digit b) (is_quote b) (begins_with (codes "/*") (b ∷ bs)) (begins_with (codes "//") (b ∷ bs)) b bs n e

pub quote_no_comment : (t : Text) → begins is_quote t ≡ true → begins_with (codes "/*") t ≡ false
quote_no_comment [] e = absurd (cc)
quote_no_comment (b ∷ bs) e = elim (quotes b e) [ inl h ↦ rw h refl | inr h ↦ rw h refl ]
