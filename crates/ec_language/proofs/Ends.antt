-- Where comments and quotes end: `ReadPieces` finds the one end that the definitions allow.
use Rattle.std.proofs.Common.{◌≡◌, ℕ, zero, suc, Bool, true, false, not, ◌&&◌, [], ◌∷◌, ◌++◌, refl, sym, ap, subst, eqb-true, eq-eqb, ne_eqb}
use borrow.Author.Tests.{eqb-false}
use Rattle.std.specs.Prelude.{codes, ◌==◌}
use Rattle.ec_language.specs.Letters.{Text, newline, backslash, single_quote, is_not_newline, is_empty, begins_with}
use Rattle.ec_language.specs.CText.{closes_comment, closes_quote}
use Rattle.ec_language.specs.SqlText.{closes_sql_quote, closes_escaped, closes_nested}
use Rattle.ec_language.specs.PieceFaults.{stays_open}
use Rattle.ec_language.specs.ReadPieces.{passed, cut, endless, comment_end, quote_end, sql_quote_end, escaped_end, nested_end}

-- a text is a front that passes the test, and the rest
pub record Split (test : Text → Bool) (text rest : Text) : Type 0 where
  pub unit : Text
  pub whole : text ≡ unit ++ rest
  pub fits : test unit ≡ true

pub both : (x y : Bool) → (x && y) ≡ true → (x ≡ true) × (y ≡ true)
both true y e = (refl, e)
both false y e = absurd (cc)

pub join : (x y : Bool) → x ≡ true → y ≡ true → (x && y) ≡ true
join true y p q = q
join false y p q = absurd (cc)

pub empty_is : (t : Text) → is_empty t ≡ true → t ≡ []
empty_is [] e = refl
empty_is (b ∷ bs) e = absurd (cc)

-- ---- comments

comment_more : (b c : ℕ) (bs u r : Text) → begins_with (codes "*/") (b ∷ c ∷ []) ≡ false → c ∷ bs ≡ u ++ r → closes_comment u ≡ true → closes_comment (b ∷ u) ≡ true
comment_more b c bs [] r e w f = f
comment_more b c bs (d ∷ u) r e w f = let h : c ≡ d = cc in rw (subst (λ x. begins_with (codes "*/") (b ∷ x ∷ []) ≡ false) h e, closes_comment) f

comment_step : (test : Bool) (b c : ℕ) (bs r : Text) → begins_with (codes "*/") (b ∷ c ∷ []) ≡ test
    → (comment_end (c ∷ bs) ≡ passed r → Split closes_comment (c ∷ bs) r)
    → elim test [ true ↦ passed bs | false ↦ comment_end (c ∷ bs) ] ≡ passed r → Split closes_comment (b ∷ c ∷ bs) r
comment_step true b c bs r e ih h = record { unit = b ∷ c ∷ []; whole = ap (λ x. b ∷ c ∷ x) (cc); fits = rw (e, closes_comment) refl }
comment_step false b c bs r e ih h = let s = ih h in record { unit = b ∷ s.unit; whole = ap (λ x. b ∷ x) s.whole; fits = comment_more b c bs s.unit r e s.whole s.fits }

pub comment_sound : (t r : Text) → comment_end t ≡ passed r → Split closes_comment t r
comment_sound [] r h = absurd (cc)
comment_sound (b ∷ []) r h = absurd (cc)
comment_sound (b ∷ c ∷ bs) r h = comment_step (begins_with (codes "*/") (b ∷ c ∷ [])) b c bs r refl (comment_sound (c ∷ bs) r) h

comment_back : (test : Bool) (c : ℕ) (u r : Text) → (closes_comment (c ∷ u) ≡ true → comment_end (c ∷ u ++ r) ≡ passed r)
    → elim test [ true ↦ is_empty u | false ↦ closes_comment (c ∷ u) ] ≡ true → elim test [ true ↦ passed (u ++ r) | false ↦ comment_end (c ∷ u ++ r) ] ≡ passed r
comment_back true c u r ih h = ap (λ x. passed (x ++ r)) (empty_is u h)
comment_back false c u r ih h = ih h

pub comment_complete : (u r : Text) → closes_comment u ≡ true → comment_end (u ++ r) ≡ passed r
comment_complete [] r h = absurd (cc)
comment_complete (b ∷ []) r h = absurd (cc)
comment_complete (b ∷ c ∷ u) r h = comment_back (begins_with (codes "*/") (b ∷ c ∷ [])) c u r (comment_complete (c ∷ u) r) h

-- ---- quotes of C text

quote_one : (x y : Bool) (q b : ℕ) (r : Text) → (b == q) ≡ x → elim x [ true ↦ passed [] | false ↦ elim y [ true ↦ endless | false ↦ cut (b ∷ []) ] ] ≡ passed r
    → Split (closes_quote q) (b ∷ []) r
quote_one true y q b r e h = record { unit = b ∷ []; whole = ap (λ x. b ∷ x) (cc); fits = e }
quote_one false true q b r e h = absurd (cc)
quote_one false false q b r e h = absurd (cc)

quote_more : (q b : ℕ) (u : Text) → (b == q) ≡ false → (b == backslash) ≡ false → is_not_newline b ≡ true → closes_quote q u ≡ true → closes_quote q (b ∷ u) ≡ true
quote_more q b [] x y w f = absurd (cc)
quote_more q b (d ∷ u) x y w f = rw (x, y, w, closes_quote) f

quote_step : (x y z w : Bool) (q b c : ℕ) (bs r : Text) → (b == q) ≡ x → (b == backslash) ≡ y → is_not_newline c ≡ z → is_not_newline b ≡ w
    → (quote_end q (c ∷ bs) ≡ passed r → Split (closes_quote q) (c ∷ bs) r) → (quote_end q bs ≡ passed r → Split (closes_quote q) bs r)
    → elim x [ true ↦ passed (c ∷ bs) | false ↦ elim y [ true ↦ elim z [ true ↦ quote_end q bs | false ↦ cut (c ∷ bs) ] | false ↦ elim w [ true ↦ quote_end q (c ∷ bs) | false ↦ cut (b ∷ c ∷ bs) ] ] ] ≡ passed r
    → Split (closes_quote q) (b ∷ c ∷ bs) r
quote_step true y z w q b c bs r ex ey ez ew one two h = record { unit = b ∷ []; whole = ap (λ t. b ∷ t) (cc); fits = ex }
quote_step false true true w q b c bs r ex ey ez ew one two h = let s = two h in record { unit = b ∷ c ∷ s.unit; whole = ap (λ t. b ∷ c ∷ t) s.whole; fits = rw (ex, ey, ez, closes_quote) s.fits }
quote_step false true false w q b c bs r ex ey ez ew one two h = absurd (cc)
quote_step false false z true q b c bs r ex ey ez ew one two h = let s = one h in record { unit = b ∷ s.unit; whole = ap (λ t. b ∷ t) s.whole; fits = quote_more q b s.unit ex ey ew s.fits }
quote_step false false z false q b c bs r ex ey ez ew one two h = absurd (cc)

pub quote_sound : (q : ℕ) (t r : Text) → quote_end q t ≡ passed r → Split (closes_quote q) t r
quote_sound q [] r h = absurd (cc)
quote_sound q (b ∷ []) r h = quote_one (b == q) (is_not_newline b) q b r refl h
quote_sound q (b ∷ c ∷ bs) r h =
    quote_step (b == q) (b == backslash) (is_not_newline c) (is_not_newline b) q b c bs r refl refl refl refl (quote_sound q (c ∷ bs) r) (quote_sound q bs r) h

quote_last : (q b : ℕ) (r : Text) → (b == q) ≡ true → quote_end q (b ∷ r) ≡ passed r
quote_last q b [] e = rw (e, quote_end) refl
quote_last q b (c ∷ r) e = rw (e, quote_end) refl

quote_back : (x y z w : Bool) (q b c : ℕ) (u r : Text)
    → (closes_quote q (c ∷ u) ≡ true → quote_end q (c ∷ u ++ r) ≡ passed r) → (closes_quote q u ≡ true → quote_end q (u ++ r) ≡ passed r)
    → elim x [ true ↦ false | false ↦ elim y [ true ↦ z && closes_quote q u | false ↦ w && closes_quote q (c ∷ u) ] ] ≡ true
    → elim x [ true ↦ passed (c ∷ u ++ r) | false ↦ elim y [ true ↦ elim z [ true ↦ quote_end q (u ++ r) | false ↦ cut (c ∷ u ++ r) ] | false ↦ elim w [ true ↦ quote_end q (c ∷ u ++ r) | false ↦ cut (b ∷ c ∷ u ++ r) ] ] ] ≡ passed r
quote_back true y z w q b c u r one two h = absurd (cc)
quote_back false true true w q b c u r one two h = two h
quote_back false true false w q b c u r one two h = absurd (cc)
quote_back false false z true q b c u r one two h = one h
quote_back false false z false q b c u r one two h = absurd (cc)

pub quote_complete : (q : ℕ) (u r : Text) → closes_quote q u ≡ true → quote_end q (u ++ r) ≡ passed r
quote_complete q [] r h = absurd (cc)
quote_complete q (b ∷ []) r h = quote_last q b r h
quote_complete q (b ∷ c ∷ u) r h =
    quote_back (b == q) (b == backslash) (is_not_newline c) (is_not_newline b) q b c u r (quote_complete q (c ∷ u) r) (quote_complete q u r) h

-- ---- quotes of C text that a newline cuts

abbrev pub begins_newline : Text → Bool
begins_newline text = begins_with (newline ∷ []) text

pub record Cut (q : ℕ) (text rest : Text) : Type 0 where
  pub unit : Text
  pub whole : text ≡ unit ++ rest
  pub fits : stays_open q unit ≡ true
  pub before : begins_newline rest ≡ true

-- equality of bytes is seen from both sides
pub turned : (x : Bool) (a b : ℕ) → (a == b) ≡ x → (b == a) ≡ x
turned true a b e = eq-eqb b a (sym (eqb-true a b e))
turned false a b e = ne_eqb b a (λ p. eqb-false a b e (sym p))

newline_is : (b : ℕ) (bs : Text) → is_not_newline b ≡ false → begins_newline (b ∷ bs) ≡ true
newline_is b bs e = rw (turned true b newline (go (b == newline) e)) refl
  where
    go : (x : Bool) → not x ≡ false → x ≡ true
    go true p = refl
    go false p = absurd (cc)

cut_one : (x y : Bool) (q b : ℕ) (r : Text) → is_not_newline b ≡ y → elim x [ true ↦ passed [] | false ↦ elim y [ true ↦ endless | false ↦ cut (b ∷ []) ] ] ≡ cut r
    → Cut q (b ∷ []) r
cut_one true y q b r e h = absurd (cc)
cut_one false true q b r e h = absurd (cc)
cut_one false false q b r e h = let same : b ∷ [] ≡ r = cc in record { unit = []; whole = same; fits = refl; before = subst (λ t. begins_newline t ≡ true) same (newline_is b [] e) }

backslash_stays : (q b : ℕ) → (b == q) ≡ false → (b == backslash) ≡ true → stays_open q (b ∷ []) ≡ true
backslash_stays q b x y = let h : b ≡ backslash = eqb-true _ _ y in rw (x, h) refl

open_more : (q b : ℕ) (u : Text) → (b == q) ≡ false → (b == backslash) ≡ false → is_not_newline b ≡ true → stays_open q u ≡ true → stays_open q (b ∷ u) ≡ true
open_more q b [] x y w f = rw (x, w) refl
open_more q b (d ∷ u) x y w f = rw (y, x, w, stays_open) f

cut_step : (x y z w : Bool) (q b c : ℕ) (bs r : Text) → (b == q) ≡ x → (b == backslash) ≡ y → is_not_newline c ≡ z → is_not_newline b ≡ w
    → (quote_end q (c ∷ bs) ≡ cut r → Cut q (c ∷ bs) r) → (quote_end q bs ≡ cut r → Cut q bs r)
    → elim x [ true ↦ passed (c ∷ bs) | false ↦ elim y [ true ↦ elim z [ true ↦ quote_end q bs | false ↦ cut (c ∷ bs) ] | false ↦ elim w [ true ↦ quote_end q (c ∷ bs) | false ↦ cut (b ∷ c ∷ bs) ] ] ] ≡ cut r
    → Cut q (b ∷ c ∷ bs) r
cut_step true y z w q b c bs r ex ey ez ew one two h = absurd (cc)
cut_step false true true w q b c bs r ex ey ez ew one two h =
    let s = two h in record { unit = b ∷ c ∷ s.unit; whole = ap (λ t. b ∷ c ∷ t) s.whole; fits = rw (ey, ez, stays_open) s.fits; before = s.before }
cut_step false true false w q b c bs r ex ey ez ew one two h =
    let same : c ∷ bs ≡ r = cc in
    record { unit = b ∷ []; whole = ap (λ t. b ∷ t) same; fits = backslash_stays q b ex ey; before = subst (λ t. begins_newline t ≡ true) same (newline_is c bs ez) }
cut_step false false z true q b c bs r ex ey ez ew one two h =
    let s = one h in record { unit = b ∷ s.unit; whole = ap (λ t. b ∷ t) s.whole; fits = open_more q b s.unit ex ey ew s.fits; before = s.before }
cut_step false false z false q b c bs r ex ey ez ew one two h =
    let same : b ∷ c ∷ bs ≡ r = cc in record { unit = []; whole = same; fits = refl; before = subst (λ t. begins_newline t ≡ true) same (newline_is b (c ∷ bs) ew) }

pub cut_sound : (q : ℕ) (t r : Text) → quote_end q t ≡ cut r → Cut q t r
cut_sound q [] r h = absurd (cc)
cut_sound q (b ∷ []) r h = cut_one (b == q) (is_not_newline b) q b r refl h
cut_sound q (b ∷ c ∷ bs) r h =
    cut_step (b == q) (b == backslash) (is_not_newline c) (is_not_newline b) q b c bs r refl refl refl refl (cut_sound q (c ∷ bs) r) (cut_sound q bs r) h

-- a quote is no newline and no backslash
pub record Plain (q : ℕ) : Type 0 where
  pub no_newline : (newline == q) ≡ false
  pub no_backslash : (backslash == q) ≡ false

cut_here : (q : ℕ) (r : Text) → Plain q → begins_newline r ≡ true → quote_end q r ≡ cut r
cut_here q [] p h = absurd (cc)
cut_here q (b ∷ []) p h = let n : newline ≡ b = eqb-true newline b ((both (newline == b) true h).0) in subst (λ x. quote_end q (x ∷ []) ≡ cut (x ∷ [])) n (rw (p.no_newline, quote_end) refl)
cut_here q (b ∷ c ∷ bs) p h =
    let n : newline ≡ b = eqb-true newline b ((both (newline == b) true h).0) in subst (λ x. quote_end q (x ∷ c ∷ bs) ≡ cut (x ∷ c ∷ bs)) n (rw (p.no_newline, quote_end) refl)

cut_last : (x y w : Bool) (q b : ℕ) (r : Text) → Plain q → (b == q) ≡ x → (b == backslash) ≡ y → is_not_newline b ≡ w
    → begins_newline r ≡ true → (not x && w) ≡ true → quote_end q (b ∷ r) ≡ cut r
cut_last x y w q b [] p ex ey ew n h = absurd (cc)
cut_last true y w q b (c ∷ r) p ex ey ew n h = absurd (cc)
cut_last false y false q b (c ∷ r) p ex ey ew n h = absurd (cc)
cut_last false true true q b (c ∷ r) p ex ey ew n h =
    let k : newline ≡ c = eqb-true newline c ((both (newline == c) true n).0) in subst (λ x. quote_end q (b ∷ x ∷ r) ≡ cut (x ∷ r)) k (rw (ex, ey, quote_end) refl)
cut_last false false true q b (c ∷ r) p ex ey ew n h = rw (ex, ey, ew, quote_end) (cut_here q (c ∷ r) p n)

cut_back : (x y z w : Bool) (q b c : ℕ) (u r : Text) → Plain q → (b == q) ≡ x → (b == backslash) ≡ y
    → (stays_open q (c ∷ u) ≡ true → quote_end q (c ∷ u ++ r) ≡ cut r) → (stays_open q u ≡ true → quote_end q (u ++ r) ≡ cut r)
    → elim y [ true ↦ z && stays_open q u | false ↦ not x && w && stays_open q (c ∷ u) ] ≡ true
    → elim x [ true ↦ passed (c ∷ u ++ r) | false ↦ elim y [ true ↦ elim z [ true ↦ quote_end q (u ++ r) | false ↦ cut (c ∷ u ++ r) ] | false ↦ elim w [ true ↦ quote_end q (c ∷ u ++ r) | false ↦ cut (b ∷ c ∷ u ++ r) ] ] ] ≡ cut r
cut_back true true z w q b c u r p ex ey one two h = let k : b ≡ backslash = eqb-true _ _ ey in absurd (let no : (backslash == q) ≡ true = subst (λ t. (t == q) ≡ true) k ex in cc (p.no_backslash, no))
cut_back true false z w q b c u r p ex ey one two h = absurd (cc)
cut_back false true true w q b c u r p ex ey one two h = two h
cut_back false true false w q b c u r p ex ey one two h = absurd (cc)
cut_back false false z true q b c u r p ex ey one two h = one h
cut_back false false z false q b c u r p ex ey one two h = absurd (cc)

pub cut_complete : (q : ℕ) (u r : Text) → Plain q → begins_newline r ≡ true → stays_open q u ≡ true → quote_end q (u ++ r) ≡ cut r
cut_complete q [] r p n h = cut_here q r p n
cut_complete q (b ∷ []) r p n h = cut_last (b == q) (b == backslash) (is_not_newline b) q b r p refl refl refl n h
cut_complete q (b ∷ c ∷ u) r p n h =
    cut_back (b == q) (b == backslash) (is_not_newline c) (is_not_newline b) q b c u r p refl refl (cut_complete q (c ∷ u) r p n) (cut_complete q u r p n) h

-- ---- quotes of SQL text

-- the rest does not go on with this byte
abbrev pub ends_before : ℕ → Text → Type 0
ends_before q rest = begins_with (q ∷ []) rest ≡ false

pub record SqlSplit (test : Text → Bool) (q : ℕ) (text rest : Text) : Type 0 where
  pub unit : Text
  pub whole : text ≡ unit ++ rest
  pub fits : test unit ≡ true
  pub ends : ends_before q rest

other_byte : (q c : ℕ) (bs : Text) → (c == q) ≡ false → ends_before q (c ∷ bs)
other_byte q c bs e = rw (turned false c q e) refl

sql_one : (x : Bool) (q b : ℕ) (r : Text) → (b == q) ≡ x → elim x [ true ↦ passed [] | false ↦ endless ] ≡ passed r → SqlSplit (closes_sql_quote q) q (b ∷ []) r
sql_one true q b r e h = let same : [] ≡ r = cc in record { unit = b ∷ []; whole = ap (λ t. b ∷ t) same; fits = e; ends = subst (λ t. ends_before q t) same refl }
sql_one false q b r e h = absurd (cc)

sql_more : (q b : ℕ) (u : Text) → (b == q) ≡ false → closes_sql_quote q u ≡ true → closes_sql_quote q (b ∷ u) ≡ true
sql_more q b [] x f = absurd (cc)
sql_more q b (d ∷ u) x f = rw (x, closes_sql_quote) f

sql_step : (x y : Bool) (q b c : ℕ) (bs r : Text) → (b == q) ≡ x → (c == q) ≡ y
    → (sql_quote_end q (c ∷ bs) ≡ passed r → SqlSplit (closes_sql_quote q) q (c ∷ bs) r) → (sql_quote_end q bs ≡ passed r → SqlSplit (closes_sql_quote q) q bs r)
    → elim x [ true ↦ elim y [ true ↦ sql_quote_end q bs | false ↦ passed (c ∷ bs) ] | false ↦ sql_quote_end q (c ∷ bs) ] ≡ passed r
    → SqlSplit (closes_sql_quote q) q (b ∷ c ∷ bs) r
sql_step true true q b c bs r ex ey one two h =
    let s = two h in record { unit = b ∷ c ∷ s.unit; whole = ap (λ t. b ∷ c ∷ t) s.whole; fits = rw (ex, ey, closes_sql_quote) s.fits; ends = s.ends }
sql_step true false q b c bs r ex ey one two h =
    let same : c ∷ bs ≡ r = cc in record { unit = b ∷ []; whole = ap (λ t. b ∷ t) same; fits = ex; ends = subst (λ t. ends_before q t) same (other_byte q c bs ey) }
sql_step false y q b c bs r ex ey one two h =
    let s = one h in record { unit = b ∷ s.unit; whole = ap (λ t. b ∷ t) s.whole; fits = sql_more q b s.unit ex s.fits; ends = s.ends }

pub sql_quote_sound : (q : ℕ) (t r : Text) → sql_quote_end q t ≡ passed r → SqlSplit (closes_sql_quote q) q t r
sql_quote_sound q [] r h = absurd (cc)
sql_quote_sound q (b ∷ []) r h = sql_one (b == q) q b r refl h
sql_quote_sound q (b ∷ c ∷ bs) r h = sql_step (b == q) (c == q) q b c bs r refl refl (sql_quote_sound q (c ∷ bs) r) (sql_quote_sound q bs r) h

-- what the end says of the first byte of the rest
first_other : (q c : ℕ) (r : Text) → ends_before q (c ∷ r) → (c == q) ≡ false
first_other q c r n = turned false q c (go (q == c) n)
  where
    go : (x : Bool) → (x && true) ≡ false → x ≡ false
    go true p = p
    go false p = refl

sql_last : (q b : ℕ) (r : Text) → ends_before q r → (b == q) ≡ true → sql_quote_end q (b ∷ r) ≡ passed r
sql_last q b [] n e = rw (e, sql_quote_end) refl
sql_last q b (c ∷ r) n e = rw (e, first_other q c r n, sql_quote_end) refl

sql_back : (x y : Bool) (q b c : ℕ) (u r : Text)
    → (closes_sql_quote q (c ∷ u) ≡ true → sql_quote_end q (c ∷ u ++ r) ≡ passed r) → (closes_sql_quote q u ≡ true → sql_quote_end q (u ++ r) ≡ passed r)
    → elim x [ true ↦ y && closes_sql_quote q u | false ↦ closes_sql_quote q (c ∷ u) ] ≡ true
    → elim x [ true ↦ elim y [ true ↦ sql_quote_end q (u ++ r) | false ↦ passed (c ∷ u ++ r) ] | false ↦ sql_quote_end q (c ∷ u ++ r) ] ≡ passed r
sql_back true true q b c u r one two h = two h
sql_back true false q b c u r one two h = absurd (cc)
sql_back false y q b c u r one two h = one h

pub sql_quote_complete : (q : ℕ) (u r : Text) → ends_before q r → closes_sql_quote q u ≡ true → sql_quote_end q (u ++ r) ≡ passed r
sql_quote_complete q [] r n h = absurd (cc)
sql_quote_complete q (b ∷ []) r n h = sql_last q b r n h
sql_quote_complete q (b ∷ c ∷ u) r n h = sql_back (b == q) (c == q) q b c u r (sql_quote_complete q (c ∷ u) r n) (sql_quote_complete q u r n) h

-- ---- quotes after the word `E`

abbrev ends_escaped : Text → Type 0
ends_escaped rest = ends_before single_quote rest

escaped_one : (x : Bool) (b : ℕ) (r : Text) → (b == single_quote) ≡ x → elim x [ true ↦ passed [] | false ↦ endless ] ≡ passed r → SqlSplit closes_escaped single_quote (b ∷ []) r
escaped_one true b r e h = let same : [] ≡ r = cc in record { unit = b ∷ []; whole = ap (λ t. b ∷ t) same; fits = e; ends = subst (λ t. ends_before single_quote t) same refl }
escaped_one false b r e h = absurd (cc)

escaped_more : (b : ℕ) (u : Text) → (b == backslash) ≡ false → (b == single_quote) ≡ false → closes_escaped u ≡ true → closes_escaped (b ∷ u) ≡ true
escaped_more b [] y x f = absurd (cc)
escaped_more b (d ∷ u) y x f = rw (y, x, closes_escaped) f

quote_no_backslash : (b : ℕ) → (b == single_quote) ≡ true → (b == backslash) ≡ false
quote_no_backslash b e = let k : b ≡ single_quote = eqb-true b single_quote e in rw k refl

escaped_step : (y x z : Bool) (b c : ℕ) (bs r : Text) → (b == backslash) ≡ y → (b == single_quote) ≡ x → (c == single_quote) ≡ z
    → (escaped_end (c ∷ bs) ≡ passed r → SqlSplit closes_escaped single_quote (c ∷ bs) r) → (escaped_end bs ≡ passed r → SqlSplit closes_escaped single_quote bs r)
    → elim y [ true ↦ escaped_end bs | false ↦ elim x [ true ↦ elim z [ true ↦ escaped_end bs | false ↦ passed (c ∷ bs) ] | false ↦ escaped_end (c ∷ bs) ] ] ≡ passed r
    → SqlSplit closes_escaped single_quote (b ∷ c ∷ bs) r
escaped_step true x z b c bs r ey ex ez one two h =
    let s = two h in record { unit = b ∷ c ∷ s.unit; whole = ap (λ t. b ∷ c ∷ t) s.whole; fits = rw (ey, closes_escaped) s.fits; ends = s.ends }
escaped_step false true true b c bs r ey ex ez one two h =
    let s = two h in record { unit = b ∷ c ∷ s.unit; whole = ap (λ t. b ∷ c ∷ t) s.whole; fits = rw (ey, ex, ez, closes_escaped) s.fits; ends = s.ends }
escaped_step false true false b c bs r ey ex ez one two h =
    let same : c ∷ bs ≡ r = cc in
    record { unit = b ∷ []; whole = ap (λ t. b ∷ t) same; fits = ex; ends = subst (λ t. ends_before single_quote t) same (other_byte single_quote c bs ez) }
escaped_step false false z b c bs r ey ex ez one two h =
    let s = one h in record { unit = b ∷ s.unit; whole = ap (λ t. b ∷ t) s.whole; fits = escaped_more b s.unit ey ex s.fits; ends = s.ends }

pub escaped_sound : (t r : Text) → escaped_end t ≡ passed r → SqlSplit closes_escaped single_quote t r
escaped_sound [] r h = absurd (cc)
escaped_sound (b ∷ []) r h = escaped_one (b == single_quote) b r refl h
escaped_sound (b ∷ c ∷ bs) r h =
    escaped_step (b == backslash) (b == single_quote) (c == single_quote) b c bs r refl refl refl (escaped_sound (c ∷ bs) r) (escaped_sound bs r) h

escaped_last : (b : ℕ) (r : Text) → ends_before single_quote r → (b == single_quote) ≡ true → escaped_end (b ∷ r) ≡ passed r
escaped_last b [] n e = rw (e, escaped_end) refl
escaped_last b (c ∷ r) n e = rw (quote_no_backslash b e, e, first_other single_quote c r n, escaped_end) refl

escaped_back : (y x z : Bool) (b c : ℕ) (u r : Text)
    → (closes_escaped (c ∷ u) ≡ true → escaped_end (c ∷ u ++ r) ≡ passed r) → (closes_escaped u ≡ true → escaped_end (u ++ r) ≡ passed r)
    → elim y [ true ↦ closes_escaped u | false ↦ elim x [ true ↦ z && closes_escaped u | false ↦ closes_escaped (c ∷ u) ] ] ≡ true
    → elim y [ true ↦ escaped_end (u ++ r) | false ↦ elim x [ true ↦ elim z [ true ↦ escaped_end (u ++ r) | false ↦ passed (c ∷ u ++ r) ] | false ↦ escaped_end (c ∷ u ++ r) ] ] ≡ passed r
escaped_back true x z b c u r one two h = two h
escaped_back false true true b c u r one two h = two h
escaped_back false true false b c u r one two h = absurd (cc)
escaped_back false false z b c u r one two h = one h

pub escaped_complete : (u r : Text) → ends_before single_quote r → closes_escaped u ≡ true → escaped_end (u ++ r) ≡ passed r
escaped_complete [] r n h = absurd (cc)
escaped_complete (b ∷ []) r n h = escaped_last b r n h
escaped_complete (b ∷ c ∷ u) r n h =
    escaped_back (b == backslash) (b == single_quote) (c == single_quote) b c u r (escaped_complete (c ∷ u) r n) (escaped_complete u r n) h

-- ---- comments of SQL text

nested_more : (n b c : ℕ) (bs u r : Text) → begins_with (codes "/*") (b ∷ c ∷ []) ≡ false → begins_with (codes "*/") (b ∷ c ∷ []) ≡ false
    → c ∷ bs ≡ u ++ r → closes_nested n u ≡ true → closes_nested n (b ∷ u) ≡ true
nested_more n b c bs [] r x y w f = absurd (cc)
nested_more n b c bs (d ∷ u) r x y w f =
    let h : c ≡ d = cc in
    rw (subst (λ t. begins_with (codes "/*") (b ∷ t ∷ []) ≡ false) h x, subst (λ t. begins_with (codes "*/") (b ∷ t ∷ []) ≡ false) h y, closes_nested) f

nested_step : (x y : Bool) (n b c : ℕ) (bs r : Text) → begins_with (codes "/*") (b ∷ c ∷ []) ≡ x → begins_with (codes "*/") (b ∷ c ∷ []) ≡ y
    → (nested_end n (c ∷ bs) ≡ passed r → Split (closes_nested n) (c ∷ bs) r) → ((m : ℕ) → nested_end m bs ≡ passed r → Split (closes_nested m) bs r)
    → elim x [ true ↦ nested_end (suc n) bs | false ↦ elim y [ true ↦ elim n [ zero ↦ passed bs | suc m ↦ nested_end m bs ] | false ↦ nested_end n (c ∷ bs) ] ] ≡ passed r
    → Split (closes_nested n) (b ∷ c ∷ bs) r
nested_step true y n b c bs r ex ey one two h =
    let s = two (suc n) h in record { unit = b ∷ c ∷ s.unit; whole = ap (λ t. b ∷ c ∷ t) s.whole; fits = rw (ex, closes_nested) s.fits }
nested_step false true zero b c bs r ex ey one two h = record { unit = b ∷ c ∷ []; whole = ap (λ t. b ∷ c ∷ t) (cc); fits = rw (ex, ey, closes_nested) refl }
nested_step false true (suc n) b c bs r ex ey one two h =
    let s = two n h in record { unit = b ∷ c ∷ s.unit; whole = ap (λ t. b ∷ c ∷ t) s.whole; fits = rw (ex, ey, closes_nested) s.fits }
nested_step false false n b c bs r ex ey one two h =
    let s = one h in record { unit = b ∷ s.unit; whole = ap (λ t. b ∷ t) s.whole; fits = nested_more n b c bs s.unit r ex ey s.whole s.fits }

pub nested_sound : (n : ℕ) (t r : Text) → nested_end n t ≡ passed r → Split (closes_nested n) t r
nested_sound n [] r h = absurd (cc)
nested_sound n (b ∷ []) r h = absurd (cc)
nested_sound n (b ∷ c ∷ bs) r h =
    nested_step (begins_with (codes "/*") (b ∷ c ∷ [])) (begins_with (codes "*/") (b ∷ c ∷ [])) n b c bs r refl refl (nested_sound n (c ∷ bs) r) (λ m. nested_sound m bs r) h

nested_back : (x y : Bool) (n b c : ℕ) (u r : Text)
    → (closes_nested n (c ∷ u) ≡ true → nested_end n (c ∷ u ++ r) ≡ passed r) → ((m : ℕ) → closes_nested m u ≡ true → nested_end m (u ++ r) ≡ passed r)
    → elim x [ true ↦ closes_nested (suc n) u | false ↦ elim y [ true ↦ elim n [ zero ↦ is_empty u | suc m ↦ closes_nested m u ] | false ↦ closes_nested n (c ∷ u) ] ] ≡ true
    → elim x [ true ↦ nested_end (suc n) (u ++ r) | false ↦ elim y [ true ↦ elim n [ zero ↦ passed (u ++ r) | suc m ↦ nested_end m (u ++ r) ] | false ↦ nested_end n (c ∷ u ++ r) ] ] ≡ passed r
nested_back true y n b c u r one two h = two (suc n) h
nested_back false true zero b c u r one two h = ap (λ t. passed (t ++ r)) (empty_is u h)
nested_back false true (suc n) b c u r one two h = two n h
nested_back false false n b c u r one two h = one h

pub nested_complete : (n : ℕ) (u r : Text) → closes_nested n u ≡ true → nested_end n (u ++ r) ≡ passed r
nested_complete n [] r h = absurd (cc)
nested_complete n (b ∷ []) r h = absurd (cc)
nested_complete n (b ∷ c ∷ u) r h =
    nested_back (begins_with (codes "/*") (b ∷ c ∷ [])) (begins_with (codes "*/") (b ∷ c ∷ [])) n b c u r (nested_complete n (c ∷ u) r) (λ m. nested_complete m u r) h
