-- The start of an embedded piece, and the type words.
use Rattle.std.proofs.Common.{◌≡◌, ℕ, inl, inr, Bool, true, false, not, ◌&&◌, ◌||◌, List, [], ◌∷◌, ◌++◌, take, drop, refl, sym, ap, ◌∙◌, subst, arith, append_assoc, take-append-drop, Option, Some, None, eqb-true}
use Rattle.std.specs.Prelude.{codes, ◌==◌, if◌then◌else◌}
use Rattle.std.specs.List.{list_all}
use Rattle.std.proofs.lemmas.Bool.Decides.{nat_tests}
use Rattle.ec_language.specs.Letters.{Text, is_blank, is_word_start, is_word_byte, is_number_byte, is_not_newline, is_sql_word_start, is_sql_word_byte, is_quote, is_empty, begins, begins_with, each, same_text, same_word, is_among, skip_blanks}
use Rattle.ec_language.specs.Keywords.{declaring_words}
use Rattle.ec_language.specs.CText as c
use Rattle.ec_language.specs.CText.{CUnit, is_word}
use Rattle.ec_language.specs.SqlText as sql
use Rattle.ec_language.specs.SqlText.{SqlUnit, is_sql_gap, begins_number, is_sql_comment, is_dash_comment, closes_nested, closes_sql_quote, closes_escaped}
use Rattle.ec_language.specs.Pieces.{behind_start, is_type_word}
use Rattle.ec_language.proofs.Ends.{both}
use Rattle.ec_language.proofs.Classes.{either, quotes, opened, number_no_sql_word}

-- the second text is what stands at the end of the first
pub record Ends (text rest : Text) : Type 0 where
  pub before : Text
  pub whole : text ≡ before ++ rest

ends_then : (s t r : Text) → Ends s t → Ends t r → Ends s r
ends_then s t r p q = record { before = p.before ++ q.before; whole = p.whole ∙ ap (λ x. p.before ++ x) q.whole ∙ sym (append_assoc p.before q.before r) }

ends_drop : (n : ℕ) (t : Text) → Ends t (drop n t)
ends_drop n t = record { before = take n t; whole = sym (take-append-drop n t) }

blank_choice : (x : Bool) (b : ℕ) (bs : Text) → Ends bs (skip_blanks bs) → Ends (b ∷ bs) (elim x [ true ↦ skip_blanks bs | false ↦ b ∷ bs ])
blank_choice true b bs h = record { before = b ∷ h.before; whole = ap (λ t. b ∷ t) h.whole }
blank_choice false b bs h = record { before = []; whole = refl }

ends_blanks : (t : Text) → Ends t (skip_blanks t)
ends_blanks [] = record { before = []; whole = refl }
ends_blanks (b ∷ bs) = blank_choice (is_blank b) b bs (ends_blanks bs)

pub record StartsBehind (text rest : Text) : Type 0 where
  pub before : Text
  pub whole : text ≡ before ++ rest
  pub some : is_empty before ≡ false

start_case : (x : Bool) (s t : Text) → ◌≡◌ {A = Option Text} (if x then Some s else None) (Some t) → (x ≡ true) × (s ≡ t)
start_case true s t e = (refl, cc)
start_case false s t e = absurd (cc)

abbrev start_test : Text → Bool
start_test text = same_word (take 4 text) (codes "EXEC") && begins is_blank (drop 4 text) && same_word (take 3 (skip_blanks (drop 4 text))) (codes "SQL") && not (begins is_word_byte (drop 3 (skip_blanks (drop 4 text))))

start_some : (t : Text) → start_test t ≡ true → Ends t (drop 3 (skip_blanks (drop 4 t))) → StartsBehind t (drop 3 (skip_blanks (drop 4 t)))
start_some [] h e = absurd (cc)
start_some (b ∷ bs) h e =
    let p = ends_then (drop 3 bs) (skip_blanks (drop 3 bs)) (drop 3 (skip_blanks (drop 3 bs))) (ends_blanks (drop 3 bs)) (ends_drop 3 (skip_blanks (drop 3 bs))) in
    let q = ends_then bs (drop 3 bs) (drop 3 (skip_blanks (drop 3 bs))) (ends_drop 3 bs) p in
    record { before = b ∷ q.before; whole = ap (λ t. b ∷ t) q.whole; some = refl }

pub starts_behind : (t s : Text) → behind_start t ≡ Some s → StartsBehind t s
starts_behind t s e =
    let h = start_case (start_test t) (drop 3 (skip_blanks (drop 4 t))) s e in
    let p = ends_then (drop 4 t) (skip_blanks (drop 4 t)) (drop 3 (skip_blanks (drop 4 t))) (ends_blanks (drop 4 t)) (ends_drop 3 (skip_blanks (drop 4 t))) in
    subst (StartsBehind t) h.1 (start_some t h.0 (ends_then t (drop 4 t) (drop 3 (skip_blanks (drop 4 t))) (ends_drop 4 t) p))

-- ---- type words

text_is : (a b : Text) → same_text a b ≡ true → a ≡ b
text_is [] [] e = refl
text_is [] (y ∷ b) e = absurd (cc)
text_is (x ∷ a) [] e = absurd (cc)
text_is (x ∷ a) (y ∷ b) e = let h = both (x == y) (same_text a b) e in let p : x ≡ y = eqb-true x y h.0 in let q : a ≡ b = text_is a b h.1 in cc

among : (P : Text → Bool) (ts : List Text) (u : Text) → list_all P ts ≡ true → is_among ts u ≡ true → P u ≡ true
among P [] u a e = absurd (cc)
among P (t ∷ ts) u a e =
    let k = both (P t) (list_all P ts) a in
    elim (either (same_text t u) (is_among ts u) e) [ inl h ↦ subst (λ x. P x ≡ true) (text_is t u h) k.0 | inr h ↦ among P ts u k.1 h ]

pub type_word_is_word : (u : Text) → is_type_word u ≡ true → is_word u ≡ true
type_word_is_word u e = among is_word declaring_words u refl e

pub type_word_solid : (u : Text) → is_type_word u ≡ true → is_sql_gap u ≡ false
type_word_solid u e = go (is_sql_gap u) (among (λ t. not (is_sql_gap t)) declaring_words u refl e)
  where
    go : (x : Bool) → not x ≡ true → x ≡ false
    go true p = absurd (cc)
    go false p = refl

-- ---- a unit of SQL text that is a word of C

start_is_word : (b : ℕ) (u : Text) → is_word (b ∷ u) ≡ true → is_word_start b ≡ true
start_is_word b u w = (both (is_word_start b) (each is_word_byte u) w).0

sql_start : (b : ℕ) → is_word_start b ≡ true → is_sql_word_start b ≡ true
sql_start b e = rw e refl

shorter_word : (r : Text) → begins is_sql_word_byte r ≡ false → begins is_word_byte r ≡ false
shorter_word [] e = refl
shorter_word (b ∷ r) e = grind (arith, nat_tests)

escaped_no_word : (b : ℕ) (u : Text) → sql.is_escaped (b ∷ u) ≡ true → is_word (b ∷ u) ≡ true → ⊥
escaped_no_word b [] e w = let h = both (same_word (b ∷ []) (codes "E") && false) false e in cc (h.1)
escaped_no_word b (d ∷ u) e w =
    let h = both (same_word (b ∷ []) (codes "E") && begins_with (codes "'") (d ∷ u)) (closes_escaped u) e in
    let q = (both (same_word (b ∷ []) (codes "E")) (begins_with (codes "'") (d ∷ u)) h.0).1 in
    let k : 39 ≡ d = eqb-true 39 d ((both (39 == d) true q).0) in
    let x = (both (is_word_byte d) (each is_word_byte u) ((both (is_word_start b) (each is_word_byte (d ∷ u)) w).1)).0 in
    let no : is_word_byte 39 ≡ true = subst (λ t. is_word_byte t ≡ true) (sym k) x in
    cc (no)

quote_no_word : (b : ℕ) → is_quote b ≡ true → is_word_start b ≡ true → ⊥
quote_no_word b e w = elim (quotes b e) [
  | inl h ↦ (let no : is_word_start 39 ≡ true = subst (λ t. is_word_start t ≡ true) h w in cc (no))
  | inr h ↦ (let no : is_word_start 34 ≡ true = subst (λ t. is_word_start t ≡ true) h w in cc (no))
]

opened_no_word : (x y : ℕ) (u : Text) → is_word_start x ≡ false → begins_with (x ∷ y ∷ []) u ≡ true → is_word u ≡ true → ⊥
opened_no_word x y u n e w =
    let k : is_word (x ∷ y ∷ drop 2 u) ≡ true = subst (λ t. is_word t ≡ true) (opened x y u e) w in let s = start_is_word x (y ∷ drop 2 u) k in cc (n, s)

single_no_word : (b : ℕ) (r : Text) → sql.is_sql_single (b ∷ []) r ≡ true → is_word_start b ≡ true → ⊥
single_no_word b r e w = go _ _ _ _ _ (sql_start b w) e
  where
    go : (v x y z t : Bool) → v ≡ true → not (v || x || y || z || t) ≡ true → ⊥
    go true x y z t p q = cc
    go false x y z t p q = cc

word_ends : (u r : Text) → SqlUnit u r → is_word u ≡ true → begins is_sql_word_byte r ≡ false
word_ends _ _ (sql.word u r f e n) w = e
word_ends _ _ (sql.number [] r f e) w = absurd (cc)
word_ends _ _ (sql.number (b ∷ u) r f e) w =
    let h = number_no_sql_word b u ((both (begins_number (b ∷ u)) (each is_number_byte u) f).0) in let s = sql_start b (start_is_word b u w) in absurd (cc (h, s))
word_ends _ _ (sql.escaped [] r f e) w = absurd (cc)
word_ends _ _ (sql.escaped (b ∷ u) r f e) w = absurd (escaped_no_word b u f w)
word_ends _ _ (sql.quoted [] r f e) w = absurd (cc)
word_ends _ _ (sql.quoted (b ∷ u) r f e) w = absurd (quote_no_word b ((both (is_quote b) (closes_sql_quote b u) f).0) (start_is_word b u w))
word_ends _ _ (sql.comment u r f) w = absurd (opened_no_word 47 42 u refl ((both (begins_with (codes "/*") u) (closes_nested 0 (drop 2 u)) f).0) w)
word_ends _ _ (sql.dash_comment u r f e) w = absurd (opened_no_word 45 45 u refl ((both (begins_with (codes "--") u) (each is_not_newline u) f).0) w)
word_ends _ _ (sql.single [] r f) w = absurd (cc)
word_ends _ _ (sql.single (b ∷ []) r f) w = absurd (single_no_word b r f (start_is_word b [] w))
word_ends _ _ (sql.single (b ∷ d ∷ u) r f) w = absurd (cc)

-- a type word is a unit of both
pub type_word_unit : (u r : Text) → SqlUnit u r → is_type_word u ≡ true → CUnit u r
type_word_unit u r a e = let w = type_word_is_word u e in c.word u r w (shorter_word r (word_ends u r a w))
