-- One step of each walk from unit to unit, in a text at an index.
use Rattle.std.proofs.Common.{◌≡◌, ℕ, ◌+◌, ◌-◌, ◌<◌, ◌≤◌, Bool, true, false, not, ◌&&◌, ◌||◌, List, [], ◌∷◌, ◌++◌, length, take, drop, map, get_or, refl, sym, ap, ◌∙◌, arith, length-drop, Option, None, Some}
use Rattle.std.specs.Prelude.{codes, ◌==◌, nat_le, is_some, if◌then◌else◌}
use Rattle.std.proofs.lemmas.Bool.Decides.{nat_tests}
use Rattle.ec_ctypes.specs.declared.text.piece.PieceKind.{PieceKind}
use Rattle.ec_ctypes.specs.declared.text.piece.PieceKind.TheVariants.{Emb, InPlace, SectionStart, SectionEnd}
use Rattle.ec_language.specs.Letters.{Text, is_blank, is_upper, is_word_byte, is_digit, is_word_start, is_quote, is_sql_word_start, is_sql_word_byte, is_not_newline, begins, begins_with, lower, same_text, same_word, skip_blanks}
use Rattle.ec_language.specs.Keywords.{declaring_words}
use Rattle.ec_language.specs.SqlText.{begins_number}
use Rattle.ec_language.specs.Pieces.{behind_start, starts_piece, is_type_word}
use Rattle.ec_language.specs.ReadPieces.{Behind, passed, cut, endless, behind_all, comment_end, escaped_end, nested_end, c_end, sql_end, begins_escaped, begins_gap, gap_stop, begins_semicolon, statement_end, statement_kind, statement, c_stop, begins_type, begins_words, braces_behind, begins_end, has_end, Found, found, unended, declaration, embedded, front}
use Rattle.ec_language.proofs.CWalks.{c_stop_on}
use Rattle.ec_language.proofs.Classes.{neither}
use Rattle.ec_language.proofs.Ends.{both}
use Rattle.ec_language.proofs.SqlWalks.{gap_stop_on, statement_end_on, statement_stop}
use Rattle.ec_language.proofs.Declarations.{run, has_end_next, has_end_skip, run_next, run_stop}
use Rattle.ec_split.specs.Places.{word_before, text_behind, ends_mark, kind_behind, is_single, is_plain_word_start, StartsPlainly}
use Rattle.ec_split.specs.WordTables.{word_in}
use Rattle.ec_split.proofs.Steps.{at_place, later, same_byte, other_byte}
use Rattle.ec_split.proofs.WordTables.{looked_up, holds_among}

-- ---- units

behind_two : (t : Text) (i : ℕ) → drop 1 (drop (i + 1) t) ≡ drop (i + 2) t
behind_two t i = let n : i + 1 + 1 ≡ i + 2 = omega arith in later 1 (i + 1) t ∙ ap (λ k. drop k t) n

c_comment_is : (b : ℕ) (s : Text) → is_word_start b ≡ false → is_digit b ≡ false → is_quote b ≡ false → begins_with (codes "/*") (b ∷ s) ≡ true → comment_end (drop 1 s) ≡ c_end (b ∷ s)
c_comment_is b s w d q e = rw (w, d, q, e, c_end) refl

pub c_comment : (t : Text) (i : ℕ) → i < length t → is_word_start (get_or t i 0) ≡ false → is_digit (get_or t i 0) ≡ false → is_quote (get_or t i 0) ≡ false
    → begins_with (codes "/*") (drop i t) ≡ true → comment_end (drop (i + 2) t) ≡ c_end (drop i t)
c_comment t i h w d q e =
    let k = at_place t i h in ap comment_end (sym (behind_two t i)) ∙ c_comment_is (get_or t i 0) (drop (i + 1) t) w d q (ap (begins_with (codes "/*")) (sym k) ∙ e) ∙ ap c_end (sym k)

c_line_is : (b : ℕ) (s : Text) → is_word_start b ≡ false → is_digit b ≡ false → is_quote b ≡ false → begins_with (codes "/*") (b ∷ s) ≡ false → begins_with (codes "//") (b ∷ s) ≡ true
    → passed (behind_all is_not_newline (drop 1 s)) ≡ c_end (b ∷ s)
c_line_is b s w d q x e = rw (w, d, q, x, e, c_end) refl

pub c_line : (t : Text) (i : ℕ) → i < length t → is_word_start (get_or t i 0) ≡ false → is_digit (get_or t i 0) ≡ false → is_quote (get_or t i 0) ≡ false
    → begins_with (codes "/*") (drop i t) ≡ false → begins_with (codes "//") (drop i t) ≡ true → passed (behind_all is_not_newline (drop (i + 2) t)) ≡ c_end (drop i t)
c_line t i h w d q x e =
    let k = at_place t i h in
    ap (λ z. passed (behind_all is_not_newline z)) (sym (behind_two t i))
    ∙ c_line_is (get_or t i 0) (drop (i + 1) t) w d q (ap (begins_with (codes "/*")) (sym k) ∙ x) (ap (begins_with (codes "//")) (sym k) ∙ e) ∙ ap c_end (sym k)

sql_escaped_is : (b : ℕ) (s : Text) → begins_escaped (b ∷ s) ≡ true → escaped_end (drop 1 s) ≡ sql_end (b ∷ s)
sql_escaped_is b s e = rw (e, sql_end) refl

pub sql_escaped : (t : Text) (i : ℕ) → i < length t → begins_escaped (drop i t) ≡ true → escaped_end (drop (i + 2) t) ≡ sql_end (drop i t)
sql_escaped t i h e =
    let k = at_place t i h in ap escaped_end (sym (behind_two t i)) ∙ sql_escaped_is (get_or t i 0) (drop (i + 1) t) (ap begins_escaped (sym k) ∙ e) ∙ ap sql_end (sym k)

sql_comment_is : (b : ℕ) (s : Text) → begins_escaped (b ∷ s) ≡ false → is_sql_word_start b ≡ false → begins_number (b ∷ s) ≡ false → is_quote b ≡ false → begins_with (codes "/*") (b ∷ s) ≡ true
    → nested_end 0 (drop 1 s) ≡ sql_end (b ∷ s)
sql_comment_is b s a w d q e = rw (a, w, d, q, e, sql_end) refl

pub sql_comment : (t : Text) (i : ℕ) → i < length t → begins_escaped (drop i t) ≡ false → is_sql_word_start (get_or t i 0) ≡ false → begins_number (drop i t) ≡ false → is_quote (get_or t i 0) ≡ false
    → begins_with (codes "/*") (drop i t) ≡ true → nested_end 0 (drop (i + 2) t) ≡ sql_end (drop i t)
sql_comment t i h a w d q e =
    let k = at_place t i h in
    ap (nested_end 0) (sym (behind_two t i))
    ∙ sql_comment_is (get_or t i 0) (drop (i + 1) t) (ap begins_escaped (sym k) ∙ a) w (ap begins_number (sym k) ∙ d) q (ap (begins_with (codes "/*")) (sym k) ∙ e) ∙ ap sql_end (sym k)

sql_dash_is : (b : ℕ) (s : Text) → begins_escaped (b ∷ s) ≡ false → is_sql_word_start b ≡ false → begins_number (b ∷ s) ≡ false → is_quote b ≡ false → begins_with (codes "/*") (b ∷ s) ≡ false
    → begins_with (codes "--") (b ∷ s) ≡ true → passed (behind_all is_not_newline (drop 1 s)) ≡ sql_end (b ∷ s)
sql_dash_is b s a w d q x e = rw (a, w, d, q, x, e, sql_end) refl

pub sql_dash : (t : Text) (i : ℕ) → i < length t → begins_escaped (drop i t) ≡ false → is_sql_word_start (get_or t i 0) ≡ false → begins_number (drop i t) ≡ false → is_quote (get_or t i 0) ≡ false
    → begins_with (codes "/*") (drop i t) ≡ false → begins_with (codes "--") (drop i t) ≡ true → passed (behind_all is_not_newline (drop (i + 2) t)) ≡ sql_end (drop i t)
sql_dash t i h a w d q x e =
    let k = at_place t i h in
    ap (λ z. passed (behind_all is_not_newline z)) (sym (behind_two t i))
    ∙ sql_dash_is (get_or t i 0) (drop (i + 1) t) (ap begins_escaped (sym k) ∙ a) w (ap begins_number (sym k) ∙ d) q (ap (begins_with (codes "/*")) (sym k) ∙ x) (ap (begins_with (codes "--")) (sym k) ∙ e)
    ∙ ap sql_end (sym k)

-- ---- the start of an embedded piece

blanks_choice : (x : Bool) (b : ℕ) (s : Text) → skip_blanks s ≡ behind_all is_blank s
    → ◌≡◌ {A = Text} (elim x [ true ↦ skip_blanks s | false ↦ b ∷ s ]) (elim x [ true ↦ behind_all is_blank s | false ↦ b ∷ s ])
blanks_choice true b s e = e
blanks_choice false b s e = refl

blanks : (s : Text) → skip_blanks s ≡ behind_all is_blank s
blanks [] = refl
blanks (b ∷ s) = blanks_choice (is_blank b) b s (blanks s)

abbrev start_choice : Bool → Text → Option Text
start_choice x s = if x then Some s else None

start_is : (t : Text) (i j : ℕ) → drop j t ≡ behind_all is_blank (drop (i + 4) t)
    → behind_start (drop i t)
    ≡ start_choice (same_word (take 4 (drop i t)) (codes "EXEC") && begins is_blank (drop (i + 4) t) && same_word (take 3 (drop j t)) (codes "SQL") && not (begins is_word_byte (drop (j + 3) t))) (drop (j + 3) t)
start_is t i j e =
    let s = drop i t in
    let four : drop 4 s ≡ drop (i + 4) t = later 4 i t in
    let second : skip_blanks (drop 4 s) ≡ drop j t = ap skip_blanks four ∙ blanks (drop (i + 4) t) ∙ sym e in
    let last : drop 3 (skip_blanks (drop 4 s)) ≡ drop (j + 3) t = ap (λ z. drop 3 z) second ∙ later 3 j t in
    ap (λ (z : Text). start_choice (same_word (take 4 s) (codes "EXEC") && begins is_blank z && same_word (take 3 (skip_blanks (drop 4 s))) (codes "SQL") && not (begins is_word_byte (drop 3 (skip_blanks (drop 4 s))))) (drop 3 (skip_blanks (drop 4 s)))) four
    ∙ ap (λ (z : Text). start_choice (same_word (take 4 s) (codes "EXEC") && begins is_blank (drop (i + 4) t) && same_word (take 3 z) (codes "SQL") && not (begins is_word_byte (drop 3 (skip_blanks (drop 4 s))))) (drop 3 (skip_blanks (drop 4 s)))) second
    ∙ ap (λ (z : Text). start_choice (same_word (take 4 s) (codes "EXEC") && begins is_blank (drop (i + 4) t) && same_word (take 3 (drop j t)) (codes "SQL") && not (begins is_word_byte z)) z) last

tests_fail : (x : Bool) (s : Text) → x ≡ false → None ≡ start_choice x s
tests_fail x s e = rw e refl

no_first : (a b c d : Bool) → a ≡ false → (a && b && c && not d) ≡ false
no_first true b c d e = absurd (cc)
no_first false b c d e = refl

no_second : (a b c d : Bool) → b ≡ false → (a && b && c && not d) ≡ false
no_second true b c d e = rw e refl
no_second false b c d e = refl

no_third : (a b c d : Bool) → c ≡ false → (a && b && c && not d) ≡ false
no_third true true c d e = rw e refl
no_third true false c d e = refl
no_third false b c d e = refl

no_fourth : (a b c d : Bool) → d ≡ true → (a && b && c && not d) ≡ false
no_fourth true true true d e = rw e refl
no_fourth true true false d e = refl
no_fourth true false c d e = refl
no_fourth false b c d e = refl

pub start_no_word : (t : Text) (i : ℕ) → same_word (take 4 (drop i t)) (codes "EXEC") ≡ false → None ≡ behind_start (drop i t)
start_no_word t i a =
    tests_fail _ (drop 3 (skip_blanks (drop 4 (drop i t)))) (no_first (same_word (take 4 (drop i t)) (codes "EXEC")) (begins is_blank (drop 4 (drop i t)))
    (same_word (take 3 (skip_blanks (drop 4 (drop i t)))) (codes "SQL")) (begins is_word_byte (drop 3 (skip_blanks (drop 4 (drop i t))))) a)

pub start_no_blank : (t : Text) (i : ℕ) → begins is_blank (drop (i + 4) t) ≡ false → None ≡ behind_start (drop i t)
start_no_blank t i b =
    tests_fail _ (drop 3 (skip_blanks (drop 4 (drop i t)))) (no_second (same_word (take 4 (drop i t)) (codes "EXEC")) (begins is_blank (drop 4 (drop i t)))
    (same_word (take 3 (skip_blanks (drop 4 (drop i t)))) (codes "SQL")) (begins is_word_byte (drop 3 (skip_blanks (drop 4 (drop i t))))) (ap (begins is_blank) (later 4 i t) ∙ b))

pub start_no_second : (t : Text) (i j : ℕ) → drop j t ≡ behind_all is_blank (drop (i + 4) t) → same_word (take 3 (drop j t)) (codes "SQL") ≡ false → None ≡ behind_start (drop i t)
start_no_second t i j e c =
    tests_fail _ (drop (j + 3) t) (no_third (same_word (take 4 (drop i t)) (codes "EXEC")) (begins is_blank (drop (i + 4) t)) (same_word (take 3 (drop j t)) (codes "SQL")) (begins is_word_byte (drop (j + 3) t)) c)
    ∙ sym (start_is t i j e)

pub start_longer : (t : Text) (i j : ℕ) → drop j t ≡ behind_all is_blank (drop (i + 4) t) → begins is_word_byte (drop (j + 3) t) ≡ true → None ≡ behind_start (drop i t)
start_longer t i j e d =
    tests_fail _ (drop (j + 3) t) (no_fourth (same_word (take 4 (drop i t)) (codes "EXEC")) (begins is_blank (drop (i + 4) t)) (same_word (take 3 (drop j t)) (codes "SQL")) (begins is_word_byte (drop (j + 3) t)) d)
    ∙ sym (start_is t i j e)

tests_pass : (a b c d : Bool) (s : Text) → a ≡ true → b ≡ true → c ≡ true → d ≡ false → Some s ≡ start_choice (a && b && c && not d) s
tests_pass a b c d s w x y z = rw (w, x, y, z) refl

pub start_found : (t : Text) (i j : ℕ) → drop j t ≡ behind_all is_blank (drop (i + 4) t) → same_word (take 4 (drop i t)) (codes "EXEC") ≡ true → begins is_blank (drop (i + 4) t) ≡ true
    → same_word (take 3 (drop j t)) (codes "SQL") ≡ true → begins is_word_byte (drop (j + 3) t) ≡ false → Some (drop (j + 3) t) ≡ behind_start (drop i t)
start_found t i j e a b c d = tests_pass (same_word (take 4 (drop i t)) (codes "EXEC")) (begins is_blank (drop (i + 4) t)) (same_word (take 3 (drop j t)) (codes "SQL")) (begins is_word_byte (drop (j + 3) t)) (drop (j + 3) t) a b c d ∙ sym (start_is t i j e)

-- as most people write it
pub plain_start : (t : Text) (i : ℕ) → StartsPlainly (drop i t) → Some (drop (i + 8) t) ≡ behind_start (drop i t)
plain_start t i e =
    let whole : Some (drop 8 (drop i t)) ≡ Some (drop 8 (codes "EXEC SQL " ++ drop 9 (drop i t))) = ap (λ z. Some (drop 8 z)) e in
    let found : Some (drop 8 (codes "EXEC SQL " ++ drop 9 (drop i t))) ≡ behind_start (codes "EXEC SQL " ++ drop 9 (drop i t)) = refl in
    ap Some (sym (later 8 i t)) ∙ whole ∙ found ∙ ap behind_start (sym e)

-- ---- what begins no embedded piece

not_e : (b : ℕ) → (b == 69 || b == 101) ≡ false → (lower b == 101) ≡ false
not_e b e = go (is_upper b) refl
  where
    go : (x : Bool) → is_upper b ≡ x → (lower b == 101) ≡ false
    go true u = rw u (other_byte (b + 32) 101 (λ h. let k : b ≡ 69 = omega arith in let m = same_byte b 69 k in let n = (neither (b == 69) (b == 101) e).0 in absurd (cc)))
    go false u = rw u ((neither (b == 69) (b == 101) e).1)

pub no_exec : (s : Text) → begins (λ b. b == 69 || b == 101) s ≡ false → false ≡ starts_piece s
no_exec [] e = refl
no_exec (b ∷ s) e =
    let n = not_e b e in
    let w : same_word (take 4 (b ∷ s)) (codes "EXEC") ≡ false = λ i. n i && same_text (map lower (take 3 s)) (codes "xec") in
    ap (λ (x : Option Text). is_some x) (start_no_word (b ∷ s) 0 w)

blank_unit : (b : ℕ) (s : Text) → is_blank b ≡ true → c_end (b ∷ s) ≡ passed s
blank_unit b s e =
    let w : is_word_start b ≡ false = grind (arith, nat_tests) in
    let d : is_digit b ≡ false = grind (arith, nat_tests) in
    let q : is_quote b ≡ false = grind (arith, nat_tests) in
    let n : (47 == b) ≡ false = grind (arith, nat_tests) in
    let x : begins_with (codes "/*") (b ∷ s) ≡ false = λ i. n i && same_text (codes "*") (take 1 s) in
    let y : begins_with (codes "//") (b ∷ s) ≡ false = λ i. n i && same_text (codes "/") (take 1 s) in
    rw (w, d, q, x, y, c_end) refl

blank_no_e : (b : ℕ) → is_blank b ≡ true → (b == 69 || b == 101) ≡ false
blank_no_e b e = grind (arith, nat_tests)

pub blank_next : (t : Text) (i : ℕ) → i < length t → is_blank (get_or t i 0) ≡ true → c_stop (drop (i + 1) t) ≡ c_stop (drop i t)
blank_next t i h e =
    let b = get_or t i 0 in
    let s = drop (i + 1) t in
    sym (ap c_stop (at_place t i h) ∙ c_stop_on (b ∷ s) s (sym (no_exec (b ∷ s) (blank_no_e b e))) (blank_unit b s e))

-- ---- walks

pub gap_next : (s r : Text) → begins_gap s ≡ true → passed r ≡ sql_end s → gap_stop r ≡ gap_stop s
gap_next s r g e = sym (gap_stop_on s r g (sym e))

pub statement_next : (s r : Text) → begins_semicolon s ≡ false → passed r ≡ sql_end s → statement_end r ≡ statement_end s
statement_next s r g e = sym (statement_end_on s r g (sym e))

single_no_start : (b : ℕ) → is_single b ≡ true → is_sql_word_start b ≡ false
single_no_start b e = grind (arith, nat_tests)

single_no_e : (b : ℕ) → is_single b ≡ true → same_word (b ∷ []) (codes "E") ≡ false
single_no_e b e = λ i. not_e b (letter b e) i && true
  where
    letter : (b : ℕ) → is_single b ≡ true → (b == 69 || b == 101) ≡ false
    letter b e = grind (arith, nat_tests)

pub single_unit : (b : ℕ) (s : Text) → is_single b ≡ true → passed s ≡ sql_end (b ∷ s)
single_unit b s e =
    let w : is_sql_word_start b ≡ false = single_no_start b e in
    let k : begins_escaped (b ∷ s) ≡ false = λ i. single_no_e b e i && begins_with (codes "'") s in
    let d : is_digit b ≡ false = grind (arith, nat_tests) in
    let f : (b == 46) ≡ false = grind (arith, nat_tests) in
    let m : begins_number (b ∷ s) ≡ false = λ i. d i || (f i && begins is_digit s) in
    let q : is_quote b ≡ false = grind (arith, nat_tests) in
    let n : (47 == b) ≡ false = grind (arith, nat_tests) in
    let o : (45 == b) ≡ false = grind (arith, nat_tests) in
    let x : begins_with (codes "/*") (b ∷ s) ≡ false = λ i. n i && same_text (codes "*") (take 1 s) in
    let y : begins_with (codes "--") (b ∷ s) ≡ false = λ i. o i && same_text (codes "-") (take 1 s) in
    rw (k, w, m, q, x, y, sql_end) refl

single_goes_on : (b : ℕ) (s : Text) → is_single b ≡ true → begins_semicolon (b ∷ s) ≡ false
single_goes_on b s e = grind (arith, nat_tests)

pub statement_single : (t : Text) (i : ℕ) → i < length t → is_single (get_or t i 0) ≡ true → statement_end (drop (i + 1) t) ≡ statement_end (drop i t)
statement_single t i h e =
    let b = get_or t i 0 in
    let s = drop (i + 1) t in
    statement_next (b ∷ s) s (single_goes_on b s e) (single_unit b s e) ∙ sym (ap statement_end (at_place t i h))

not_true : (x : Bool) → not x ≡ true → x ≡ false
not_true false e = refl
not_true true e = absurd (cc)

-- such a byte begins a word, and is no `E`
pub plain_start_is : (b : ℕ) → is_plain_word_start b ≡ true → (is_sql_word_start b ≡ true) × ((b == 69 || b == 101) ≡ false)
plain_start_is b e = let h = both (is_sql_word_start b) (not (b == 69 || b == 101)) e in (h.0, not_true (b == 69 || b == 101) h.1)

pub plain_no_escape : (b : ℕ) (s : Text) → is_plain_word_start b ≡ true → begins_escaped (b ∷ s) ≡ false
plain_no_escape b s e = let n : same_word (b ∷ []) (codes "E") ≡ false = λ i. not_e b (plain_start_is b e).1 i && true in λ i. n i && begins_with (codes "'") s

plain_unit : (b : ℕ) (s r : Text) → is_plain_word_start b ≡ true → r ≡ behind_all is_sql_word_byte s → passed r ≡ sql_end (b ∷ s)
plain_unit b s r e k =
    let w = (plain_start_is b e).0 in
    let n = plain_no_escape b s e in
    rw (n, w, sql_end) (ap passed k)

plain_goes_on : (b : ℕ) (s : Text) → is_sql_word_start b ≡ true → begins_semicolon (b ∷ s) ≡ false
plain_goes_on b s e = grind (arith, nat_tests)

pub statement_word : (t : Text) (i j : ℕ) → i < length t → is_plain_word_start (get_or t i 0) ≡ true → drop j t ≡ behind_all is_sql_word_byte (drop (i + 1) t)
    → statement_end (drop j t) ≡ statement_end (drop i t)
statement_word t i j h e k =
    let b = get_or t i 0 in
    let s = drop (i + 1) t in
    statement_next (b ∷ s) (drop j t) (plain_goes_on b s (plain_start_is b e).0) (plain_unit b s (drop j t) e k) ∙ sym (ap statement_end (at_place t i h))

pub gap_blank : (t : Text) (i : ℕ) → i < length t → is_blank (get_or t i 0) ≡ true → gap_stop (drop (i + 1) t) ≡ gap_stop (drop i t)
gap_blank t i h e =
    let b = get_or t i 0 in
    let s = drop (i + 1) t in
    let g : begins_gap (b ∷ s) ≡ true = λ i. e i || begins_with (codes "/*") (b ∷ s) || begins_with (codes "--") (b ∷ s) in
    let n : is_single b ≡ true = λ i. e i || b == 44 || b == 40 || b == 41 || b == 61 || b == 58 || b == 91 || b == 93 || b == 42 || b == 60 || b == 62 in
    gap_next (b ∷ s) s g (single_unit b s n) ∙ sym (ap gap_stop (at_place t i h))

pub c_next : (s r : Text) → starts_piece s ≡ false → passed r ≡ c_end s → c_stop r ≡ c_stop s
c_next s r g e = sym (c_stop_on s r g (sym e))

pub loose_next : (k n : ℕ) (s r : Text) → begins_end (k, s) ≡ false → n ≡ braces_behind k s → passed r ≡ c_end s → has_end (n, r) ≡ has_end (k, s)
loose_next k n s r x m e = ap (λ z. has_end (z, r)) m ∙ sym (has_end_next k s r x (sym e))

pub loose_skip : (k : ℕ) (s r : Text) → begins_end (k, s) ≡ false → cut r ≡ c_end s → has_end (k, r) ≡ has_end (k, s)
loose_skip k s r x e = sym (has_end_skip k s r x (sym e))

pub tight_next : (k n : ℕ) (s r : Text) → begins_end (k, s) ≡ false → n ≡ braces_behind k s → passed r ≡ c_end s → run (n, r) ≡ run (k, s)
tight_next k n s r x m e = ap (λ z. run (z, r)) m ∙ sym (run_next k s r x (sym e))

pub statement_here : (t : Text) (i : ℕ) → begins_semicolon (drop i t) ≡ true → Some (drop (i + 1) t) ≡ statement_end (drop i t)
statement_here t i e = ap (λ (z : Text). Some z) (sym (later 1 i t)) ∙ sym (statement_stop (drop i t) e)

pub tight_here : (t : Text) (k i : ℕ) → begins_end (k, drop i t) ≡ true → found InPlace (drop (i + 1) t) ≡ run (k, drop i t)
tight_here t k i e = ap (found InPlace) (sym (later 1 i t)) ∙ sym (run_stop k (drop i t) e)

-- ---- words

pub front_slice : (t : Text) (a e : ℕ) → a ≤ e → e ≤ length t → front (drop a t) (drop e t) ≡ take (e - a) (drop a t)
front_slice t a e h k =
    let n : length (drop a t) - length (drop e t) ≡ e - a = omega (arith, length-drop a t, length-drop e t) in ap (λ m. take m (drop a t)) n

abbrev type_choice : Text → Behind → Bool
type_choice s x = elim x [ passed r ↦ is_type_word (front s r) | cut r ↦ false | endless ↦ false ]

first_typed : (s : Text) (x : Behind) → is_type_word (word_before s x) ≡ type_choice s x
first_typed s (passed r) = refl
first_typed s (cut r) = refl
first_typed s endless = refl

abbrev embedded_choice : Text → Text → Bool → Found
embedded_choice s g x = elim x [ true ↦ declaration g | false ↦ statement s ]

embedded_is : (s g w : Text) (x : Bool) → g ≡ gap_stop s → w ≡ word_before g (sql_end g) → is_type_word w ≡ x → embedded_choice s g x ≡ embedded s
embedded_is s g w x e f t =
    let typed : x ≡ begins_type g = sym t ∙ ap is_type_word f ∙ first_typed g (sql_end g) in
    ap (embedded_choice s g) typed ∙ ap (λ z. embedded_choice s z (begins_type z)) e

pub typed : (s g w : Text) → g ≡ gap_stop s → w ≡ word_before g (sql_end g) → is_type_word w ≡ true → declaration g ≡ embedded s
typed s g w e f t = embedded_is s g w true e f t

pub untyped : (s g w : Text) → g ≡ gap_stop s → w ≡ word_before g (sql_end g) → is_type_word w ≡ false → statement s ≡ embedded s
untyped s g w e f t = embedded_is s g w false e f t

-- ---- words of a mark

abbrev words_choice : Text → Text → List Text → Behind → Bool
words_choice s w ws x = elim x [ passed r ↦ elim (same_word (front s r) w) [ true ↦ begins_words ws r | false ↦ false ] | cut r ↦ false | endless ↦ false ]

and_choice : (x y : Bool) → (x && y) ≡ elim x [ true ↦ y | false ↦ false ]
and_choice true y = refl
and_choice false y = refl

first_word : (w : Text) (ws : List Text) (g : Text) (x : Behind) → same_word [] w ≡ false → (same_word (word_before g x) w && begins_words ws (text_behind g x)) ≡ words_choice g w ws x
first_word w ws g (passed r) n = and_choice (same_word (front g r) w) (begins_words ws r)
first_word w ws g (cut r) n = λ i. n i && begins_words ws g
first_word w ws g endless n = λ i. n i && begins_words ws g

words_are : (s g u r w : Text) (ws : List Text) → g ≡ gap_stop s → u ≡ word_before g (sql_end g) → r ≡ text_behind g (sql_end g) → same_word [] w ≡ false
    → (same_word u w && begins_words ws r) ≡ begins_words (w ∷ ws) s
words_are s g u r w ws e f h n =
    ap (λ z. same_word z w && begins_words ws r) f ∙ ap (λ z. same_word (word_before g (sql_end g)) w && begins_words ws z) h
    ∙ first_word w ws g (sql_end g) n ∙ ap (λ z. words_choice z w ws (sql_end z)) e

some_word : (w : Text) → 0 < length w → same_word [] w ≡ false
some_word [] h = absurd (omega arith)
some_word (b ∷ w) h = refl

pub word_found : (s g u r w : Text) → g ≡ gap_stop s → u ≡ word_before g (sql_end g) → r ≡ text_behind g (sql_end g) → 0 < length w → same_word u w ≡ true
    → (ws : List Text) → begins_words ws r ≡ begins_words (w ∷ ws) s
word_found s g u r w e f h n m ws = sym (ap (λ z. z && begins_words ws r) m) ∙ words_are s g u r w ws e f h (some_word w n)

pub word_other : (s g u r w : Text) → g ≡ gap_stop s → u ≡ word_before g (sql_end g) → r ≡ text_behind g (sql_end g) → 0 < length w → same_word u w ≡ false
    → (ws : List Text) → false ≡ begins_words (w ∷ ws) s
word_other s g u r w e f h n m ws = sym (ap (λ z. z && begins_words ws r) m) ∙ words_are s g u r w ws e f h (some_word w n)

kind_choice : (x y : Bool) → (if x then SectionStart else if y then SectionEnd else Emb) ≡ elim x [ true ↦ SectionStart | false ↦ elim y [ true ↦ SectionEnd | false ↦ Emb ] ]
kind_choice true y = refl
kind_choice false true = refl
kind_choice false false = refl

abbrev section : List Text
section = codes "DECLARE" ∷ codes "SECTION" ∷ []

kind_is : (s g u r : Text) → g ≡ gap_stop s → u ≡ word_before g (sql_end g) → r ≡ text_behind g (sql_end g) → kind_behind u r ≡ statement_kind s
kind_is s g u r e f h =
    let begin = words_are s g u r (codes "BEGIN") section e f h refl in
    let end = words_are s g u r (codes "END") section e f h refl in
    kind_choice (same_word u (codes "BEGIN") && ends_mark r) (same_word u (codes "END") && ends_mark r)
    ∙ λ i. elim (begin i) [ true ↦ SectionStart | false ↦ elim (end i) [ true ↦ SectionEnd | false ↦ Emb ] ]

-- a statement, by the end of its text
abbrev statement_choice : PieceKind → Option Text → Found
statement_choice kind x = elim x [ Some rest ↦ found kind rest | None ↦ unended ]

pub stated : (s g u r : Text) (x : Option Text) → g ≡ gap_stop s → u ≡ word_before g (sql_end g) → r ≡ text_behind g (sql_end g) → x ≡ statement_end s
    → statement_choice (kind_behind u r) x ≡ statement s
stated s g u r x e f h p = ap (λ k. statement_choice k x) (kind_is s g u r e f h) ∙ ap (statement_choice (statement_kind s)) p

-- ---- type words

abbrev pub type_table : List Text
type_table = [] ∷ codes "int" ∷ [] ∷ [] ∷ codes "long" ∷ [] ∷ codes "bool" ∷ [] ∷ codes "VARCHAR" ∷ [] ∷ [] ∷ codes "const" ∷ [] ∷ codes "signed" ∷ [] ∷ codes "unsigned" ∷ codes "varchar" ∷ codes "char" ∷ [] ∷ codes "short" ∷ [] ∷ codes "struct" ∷ [] ∷ [] ∷ []

pub type_word : (w : Text) → (length w == 0) ≡ false → same_text (word_in type_table w) w ≡ is_type_word w
type_word w e = looked_up declaring_words type_table (record { has_all = refl; has_only = refl }) w e

-- each of them begins in lower case or with `V`
pub no_type_word : (w : Text) → (length w == 0) ≡ false → get_or w 0 0 < 86 → false ≡ is_type_word w
no_type_word [] h k = absurd (cc)
no_type_word (b ∷ w) h k = go (is_type_word (b ∷ w)) refl
  where
    go : (x : Bool) → is_type_word (b ∷ w) ≡ x → false ≡ is_type_word (b ∷ w)
    go false e = sym e
    go true e = let m : nat_le 86 b ≡ true = holds_among (λ v. begins (λ c. nat_le 86 c) v) declaring_words (b ∷ w) refl e in absurd (grind (arith, nat_tests))
