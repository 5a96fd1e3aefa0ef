-- Tokens that are told by their first bytes, and the first byte that begins none.
use Rattle.std.proofs.Common.{◌≡◌, ℕ, suc, ◌+◌, ◌-◌, ◌≤◌, ◌<◌, Bool, true, false, List, [], ◌∷◌, ◌++◌, length, take, drop, get_or, Option, None, refl, sym, ap, ◌∙◌, subst, arith, inl, inr}
use Rattle.std.specs.Prelude.{codes, ◌==◌, ◌&&◌, ◌||◌, Result, Ok, Err}
use Rattle.std.proofs.lemmas.Bool.Decides.{nat_tests}
use Rattle.ec_base.specs.declared.fault.FaultKind.TheVariants.{F4}
use Rattle.ec_base.specs.declared.stop.Stop.{Stop}
use Rattle.ec_base.specs.declared.stop.Stop.TheVariants.{Refused}
use Rattle.ec_language.specs.Letters.{Text, dollar, is_blank, is_digit, is_sql_word_start, is_sql_word_byte, is_quote, begins, begins_with, each, same_text, same_word}
use Rattle.ec_language.specs.Line.{newlines}
use Rattle.ec_language.specs.SqlText.{begins_number}
use Rattle.ec_language.specs.SqlTokens.{SqlToken, sql_tokens_from, first_bad_line, is_bad_unit}
use Rattle.ec_language.specs.Tokens.{refused_at, sql_answer}
use Rattle.ec_language.specs.ReadPieces.{passed, behind_all, sql_end, front, begins_semicolon, begins_escaped}
use Rattle.ec_language.specs.ReadTokens.{sql_units}
use Rattle.ec_language.proofs.Ends.{both}
use Rattle.ec_language.proofs.Classes.{all_sound, e_word, neither}
use Rattle.ec_language.proofs.CWalks.{front_is}
use Rattle.ec_split.proofs.Steps.{at_place, later}
use Rattle.ec_split.specs.Places.{is_single, is_plain_word_start}
use Rattle.ec_split.proofs.Walks.{front_slice, single_unit, plain_start_is, plain_no_escape}
use Rattle.ec_language.proofs.LongestMatch.{begins_split}
use Rattle.ec_clex.specs.declared.sql.SqlClass.{SqlClass}
use Rattle.ec_clex.specs.declared.sql.SqlClass.TheVariants.{Word, Mark}
use Rattle.ec_clex.specs.Sql.{IsFlat, class_view, first_class, begins_pair, begins_bad, begins_blank, is_bad_byte, is_lone_mark}
use Rattle.ec_clex.proofs.Units.{UnitAt, bad_here, bad_on}
use Rattle.ec_clex.proofs.SqlSteps.{slice, token_of, none_left, pair_is, sql_gap_on, sql_single_on}

-- ---- words

same_line : (b : ℕ) → is_sql_word_byte b ≡ true → (b == 10) ≡ false
same_line b e = grind (arith, nat_tests)

no_line : (b : ℕ) (u : Text) → (b == 10) ≡ false → newlines (b ∷ u) ≡ newlines u
no_line b u e = let h : newlines (b ∷ u) ≡ 0 + newlines u = rw (e, newlines) refl in omega (arith, h)

word_lines : (u : Text) → each is_sql_word_byte u ≡ true → newlines u ≡ 0
word_lines [] e = refl
word_lines (b ∷ u) e = let h = both (is_sql_word_byte b) (each is_sql_word_byte u) e in no_line b u (same_line b h.0) ∙ word_lines u h.1

start_goes_on : (b : ℕ) → is_sql_word_start b ≡ true → (b == 10) ≡ false
start_goes_on b e = grind (arith, nat_tests)

word_is : (b : ℕ) (s r : Text) → is_sql_word_start b ≡ true → begins_escaped (b ∷ s) ≡ false → r ≡ behind_all is_sql_word_byte s → IsFlat (b ∷ s) r Word
word_is b s r w n e =
    let h = all_sound is_sql_word_byte s r (sym e) in
    let c : (47 == b) ≡ false = grind (arith, nat_tests) in
    let d : (45 == b) ≡ false = grind (arith, nat_tests) in
    let f : (58 == b) ≡ false = grind (arith, nat_tests) in
    let k : is_blank b ≡ false = grind (arith, nat_tests) in
    let l : (b == 59) ≡ false = grind (arith, nat_tests) in
    let m : is_bad_byte b ≡ false = grind (arith, nat_tests) in
    record {
      more = l;
      behind = rw (n, w, sql_end) (ap passed e);
      solid = λ i. (k i || (c i && same_text (codes "*") (take 1 s))) || (d i && same_text (codes "-") (take 1 s));
      plain = n;
      alone = λ i. (f i && same_text (codes ":") (take 1 s)) || (d i && same_text (codes ">") (take 1 s));
      is = rw (w, first_class) refl;
      good = m;
      lines = ap newlines (ap (λ z. front (b ∷ z) r) h.whole ∙ front_is (b ∷ h.unit) r) ∙ (no_line b h.unit (start_goes_on b w) ∙ word_lines h.unit h.fits);
    }

pub word_flat : (t : Text) (i e : ℕ) → i < length t → is_sql_word_start (get_or t i 0) ≡ true → begins_escaped (drop i t) ≡ false → drop e t ≡ behind_all is_sql_word_byte (drop (i + 1) t)
    → IsFlat (drop i t) (drop e t) Word
word_flat t i e h w n k =
    let p = at_place t i h in
    subst (λ z. IsFlat z (drop e t) Word) (sym p) (word_is (get_or t i 0) (drop (i + 1) t) (drop e t) w (ap begins_escaped (sym p) ∙ n) k)

-- ---- marks

mark_no_e : (b : ℕ) → is_lone_mark b ≡ true → same_word (b ∷ []) (codes "E") ≡ false
mark_no_e b e = step (same_word (b ∷ []) (codes "E")) refl
  where
    step : (x : Bool) → same_word (b ∷ []) (codes "E") ≡ x → same_word (b ∷ []) (codes "E") ≡ false
    step false k = k
    step true k = absurd (elim (e_word b k) [
      | inl k ↦ let s = subst (λ c. is_lone_mark c ≡ true) k e in cc
      | inr k ↦ let s = subst (λ c. is_lone_mark c ≡ true) k e in cc
    ])

mark_is : (b : ℕ) (s : Text) → is_sql_word_start b ≡ false → is_lone_mark b ≡ true → begins_pair (b ∷ s) ≡ false → IsFlat (b ∷ s) s Mark
mark_is b s w e p =
    let n : begins_escaped (b ∷ s) ≡ false = λ i. mark_no_e b e i && begins_with (codes "'") s in
    let c : (47 == b) ≡ false = grind (arith, nat_tests) in
    let d : (45 == b) ≡ false = grind (arith, nat_tests) in
    let k : is_blank b ≡ false = grind (arith, nat_tests) in
    let l : (b == 59) ≡ false = grind (arith, nat_tests) in
    let m : is_bad_byte b ≡ false = grind (arith, nat_tests) in
    let g : is_digit b ≡ false = grind (arith, nat_tests) in
    let f : (b == 46) ≡ false = grind (arith, nat_tests) in
    let q : is_quote b ≡ false = grind (arith, nat_tests) in
    let o : (b == 10) ≡ false = grind (arith, nat_tests) in
    let a : begins_number (b ∷ s) ≡ false = λ i. g i || (f i && begins is_digit s) in
    let x : begins_with (codes "/*") (b ∷ s) ≡ false = λ i. c i && same_text (codes "*") (take 1 s) in
    let y : begins_with (codes "--") (b ∷ s) ≡ false = λ i. d i && same_text (codes "-") (take 1 s) in
    record {
      more = l;
      behind = rw (n, w, a, q, x, y, sql_end) refl;
      solid = λ i. (k i || x i) || y i;
      plain = n;
      alone = p;
      is = rw (w, a, q, first_class) refl;
      good = m;
      lines = ap newlines (front_is (b ∷ []) s) ∙ no_line b [] o;
    }

pub mark_flat : (t : Text) (i : ℕ) → i < length t → is_sql_word_start (get_or t i 0) ≡ false → is_lone_mark (get_or t i 0) ≡ true → begins_pair (drop i t) ≡ false
    → IsFlat (drop i t) (drop (i + 1) t) Mark
mark_flat t i h w e n =
    let p = at_place t i h in
    subst (λ z. IsFlat z (drop (i + 1) t) Mark) (sym p) (mark_is (get_or t i 0) (drop (i + 1) t) w e (ap begins_pair (sym p) ∙ n))

-- ---- marks that are told by one look into a table

single_mark : (b : ℕ) → is_single b ≡ true → is_blank b ≡ false → is_lone_mark b ≡ true
single_mark b e n = grind (arith, nat_tests)

mark_no_start : (b : ℕ) → is_lone_mark b ≡ true → is_sql_word_start b ≡ false
mark_no_start b e = grind (arith, nat_tests)

mark_no_pair : (b : ℕ) (s : Text) → is_lone_mark b ≡ true → begins_with (codes "::") (b ∷ s) ≡ false → begins_pair (b ∷ s) ≡ false
mark_no_pair b s e n =
    let d : (45 == b) ≡ false = grind (arith, nat_tests) in
    λ i. n i || (d i && same_text (codes ">") (take 1 s))

pub single_flat : (t : Text) (i : ℕ) → i < length t → begins_blank (drop i t) ≡ false → is_single (get_or t i 0) ≡ true → begins_with (codes "::") (drop i t) ≡ false
    → IsFlat (drop i t) (drop (i + 1) t) Mark
single_flat t i h k e n =
    let p = at_place t i h in
    let b = get_or t i 0 in
    let m = single_mark b e (ap begins_blank (sym p) ∙ k) in
    mark_flat t i h (mark_no_start b m) m (ap begins_pair p ∙ mark_no_pair b (drop (i + 1) t) m (ap (begins_with (codes "::")) (sym p) ∙ n))

-- ---- words that begin with no `E`

pub plain_flat : (t : Text) (i e : ℕ) → i < length t → is_plain_word_start (get_or t i 0) ≡ true → drop e t ≡ behind_all is_sql_word_byte (drop (i + 1) t) → IsFlat (drop i t) (drop e t) Word
plain_flat t i e h w k = word_flat t i e h (plain_start_is (get_or t i 0) w).0 (ap begins_escaped (at_place t i h) ∙ plain_no_escape (get_or t i 0) (drop (i + 1) t) w) k

-- ---- the first byte that begins no token

good_first : (b : ℕ) (u : Text) → is_bad_byte b ≡ false → is_bad_unit (b ∷ u) ≡ false
good_first b u e = let h = neither (b == 0) (b == dollar) e in (λ i. (h.0 i && same_text u []) || (h.1 i && same_text u []))

pub good_slice : (t : Text) (at end : ℕ) → at + 1 ≤ end → end ≤ length t → begins_bad (drop at t) ≡ false → is_bad_unit (take (end - at) (drop at t)) ≡ false
good_slice t at end h k e =
    let p = at_place t at (omega arith) in
    let n : end - at ≡ suc (end - (at + 1)) = omega arith in
    ap is_bad_unit (λ i. take (n i) (p i)) ∙ good_first (get_or t at 0) (take (end - (at + 1)) (drop (at + 1) t)) (ap begins_bad (sym p) ∙ e)

bad_unit : (b : ℕ) (s : Text) → is_bad_byte b ≡ true → passed s ≡ sql_end (b ∷ s)
bad_unit b s e =
    let w : is_sql_word_start b ≡ false = grind (arith, nat_tests) in
    let n : begins_escaped (b ∷ s) ≡ false = λ i. no_e b e i && begins_with (codes "'") s in
    let c : (47 == b) ≡ false = grind (arith, nat_tests) in
    let d : (45 == b) ≡ false = grind (arith, nat_tests) in
    let g : is_digit b ≡ false = grind (arith, nat_tests) in
    let f : (b == 46) ≡ false = grind (arith, nat_tests) in
    let q : is_quote b ≡ false = grind (arith, nat_tests) in
    let a : begins_number (b ∷ s) ≡ false = λ i. g i || (f i && begins is_digit s) in
    let x : begins_with (codes "/*") (b ∷ s) ≡ false = λ i. c i && same_text (codes "*") (take 1 s) in
    let y : begins_with (codes "--") (b ∷ s) ≡ false = λ i. d i && same_text (codes "-") (take 1 s) in
    rw (n, w, a, q, x, y, sql_end) refl
  where
    no_e : (b : ℕ) → is_bad_byte b ≡ true → same_word (b ∷ []) (codes "E") ≡ false
    no_e b e = step (same_word (b ∷ []) (codes "E")) refl
      where
        step : (x : Bool) → same_word (b ∷ []) (codes "E") ≡ x → same_word (b ∷ []) (codes "E") ≡ false
        step false k = k
        step true k = absurd (elim (e_word b k) [
          | inl k ↦ let s = subst (λ c. is_bad_byte c ≡ true) k e in cc
          | inr k ↦ let s = subst (λ c. is_bad_byte c ≡ true) k e in cc
        ])

bad_one : (x y : Bool) → (x || y) ≡ true → ((x && true) || (y && true)) ≡ true
bad_one true y e = refl
bad_one false true e = refl
bad_one false false e = absurd (cc)

abbrev Answer : Type 0
Answer = Result (List SqlToken) Stop

pub bad_told : (t : Text) (at l line : ℕ) (us : List Text) → at < length t → is_bad_byte (get_or t at 0) ≡ true → first_bad_line l (sql_units (drop at t)) ≡ first_bad_line line us
    → ◌≡◌ {A = Answer} (Err (Refused F4 (record { 0 = l }))) (sql_answer line us)
bad_told t at l line us h e good =
    let b = get_or t at 0 in
    let s = drop (at + 1) t in
    let p = at_place t at h in
    let m : (b == 59) ≡ false = grind (arith, nat_tests) in
    let n : at + 1 - at ≡ 1 = omega arith in
    let u : UnitAt t at (at + 1) = record {
      more = ap begins_semicolon p ∙ m;
      behind = bad_unit b s e ∙ ap sql_end (sym p);
      order = omega arith;
      within = omega arith;
    } in
    let bad : is_bad_unit (take (at + 1 - at) (drop at t)) ≡ true = (λ i. is_bad_unit (take (n i) (p i))) ∙ bad_one (b == 0) (b == dollar) e in
    ap (λ (o : Option ℕ). refused_at o (sql_tokens_from false line us)) (bad_here t at (at + 1) l u bad ∙ good)

pub all_told : (done : List SqlToken) (g : Bool) (l line : ℕ) (s : Text) (us : List Text) → sql_units s ≡ [] → done ++ sql_tokens_from g l (sql_units s) ≡ sql_tokens_from false line us
    → first_bad_line l (sql_units s) ≡ first_bad_line line us → ◌≡◌ {A = Answer} (Ok done) (sql_answer line us)
all_told done g l line s us e same good =
    let n : None ≡ first_bad_line line us = ap (first_bad_line l) (sym e) ∙ good in
    let all : done ≡ sql_tokens_from false line us = none_left done g l s (sql_tokens_from false line us) e same in
    λ i. refused_at (n i) (all i)

-- ---- blanks

blank_at : (t : Text) (at : ℕ) → at < length t → begins_blank (drop at t) ≡ true → UnitAt t at (at + 1)
blank_at t at h e =
    let b = get_or t at 0 in
    let p = at_place t at h in
    let k : is_blank b ≡ true = ap begins_blank (sym p) ∙ e in
    let m : (b == 59) ≡ false = grind (arith, nat_tests) in
    record {
      more = ap begins_semicolon p ∙ m;
      behind = single_unit b (drop (at + 1) t) (λ i. k i || b == 44 || b == 40 || b == 41 || b == 61 || b == 58 || b == 91 || b == 93 || b == 42 || b == 60 || b == 62) ∙ ap sql_end (sym p);
      order = omega arith;
      within = omega arith;
    }

one_byte : (t : Text) (at : ℕ) → at < length t → slice t at (at + 1) ≡ get_or t at 0 ∷ []
one_byte t at h = let n : at + 1 - at ≡ 1 = omega arith in λ i. take (n i) (at_place t at h i)

pub blank_on : (t : Text) (at : ℕ) (g : Bool) (l n : ℕ) → at < length t → begins_blank (drop at t) ≡ true → n ≡ newlines (get_or t at 0 ∷ [])
    → sql_tokens_from true (l + n) (sql_units (drop (at + 1) t)) ≡ sql_tokens_from g l (sql_units (drop at t))
blank_on t at g l n h e same =
    ap (λ k. sql_tokens_from true (l + k) (sql_units (drop (at + 1) t))) (same ∙ ap newlines (sym (one_byte t at h)))
    ∙ sql_gap_on t at (at + 1) g l (blank_at t at h e) (λ i. e i || begins_with (codes "/*") (drop at t) || begins_with (codes "--") (drop at t))

blank_good : (b : ℕ) → is_blank b ≡ true → is_bad_byte b ≡ false
blank_good b e = grind (arith, nat_tests)

pub blank_bad : (t : Text) (at l n : ℕ) → at < length t → begins_blank (drop at t) ≡ true → n ≡ newlines (get_or t at 0 ∷ [])
    → first_bad_line (l + n) (sql_units (drop (at + 1) t)) ≡ first_bad_line l (sql_units (drop at t))
blank_bad t at l n h e same =
    let p = at_place t at h in
    let good : begins_bad (drop at t) ≡ false = ap begins_bad p ∙ blank_good (get_or t at 0) (ap begins_blank (sym p) ∙ e) in
    bad_on t at (at + 1) l n (blank_at t at h e) (good_slice t at (at + 1) (omega arith) (omega arith) good) (same ∙ ap newlines (sym (one_byte t at h)))

-- ---- flat tokens

flat_unit : (t : Text) (at end : ℕ) (class : SqlClass) → at + 1 ≤ end → end ≤ length t → IsFlat (drop at t) (drop end t) class → UnitAt t at end
flat_unit t at end class h k f = record { more = f.more; behind = f.behind; order = omega arith; within = k }

flat_lines : (t : Text) (at end : ℕ) (class : SqlClass) → at + 1 ≤ end → end ≤ length t → IsFlat (drop at t) (drop end t) class → newlines (slice t at end) ≡ 0
flat_lines t at end class h k f = ap newlines (sym (front_slice t at end (omega arith) k)) ∙ f.lines

pub flat_on : (t : Text) (at end : ℕ) (g : Bool) (l : ℕ) (class : SqlClass) → at + 1 ≤ end → end ≤ length t → IsFlat (drop at t) (drop end t) class
    → token_of (class_view class) (slice t at end) g l ∷ sql_tokens_from false l (sql_units (drop end t)) ≡ sql_tokens_from g l (sql_units (drop at t))
flat_on t at end g l class h k f =
    let n : l + newlines (slice t at end) ≡ l = omega (arith, flat_lines t at end class h k f) in
    (λ i. token_of (class_view class) (slice t at end) g l ∷ sql_tokens_from false (sym n i) (sql_units (drop end t)))
    ∙ sql_single_on t at end g l (class_view class) (flat_unit t at end class h k f) f.solid f.plain f.alone f.is

pub flat_bad : (t : Text) (at end l : ℕ) (class : SqlClass) → at + 1 ≤ end → end ≤ length t → IsFlat (drop at t) (drop end t) class
    → first_bad_line l (sql_units (drop end t)) ≡ first_bad_line l (sql_units (drop at t))
flat_bad t at end l class h k f =
    let n : l + newlines (slice t at end) ≡ l = omega (arith, flat_lines t at end class h k f) in
    ap (λ m. first_bad_line m (sql_units (drop end t))) (sym n)
    ∙ bad_on t at end l (newlines (slice t at end)) (flat_unit t at end class h k f) (good_slice t at end h k f.good) refl

-- ---- marks of two bytes

pub pair_bad : (t : Text) (at l : ℕ) → begins_pair (drop at t) ≡ true → first_bad_line (l + newlines (take 2 (drop at t))) (sql_units (drop (at + 2) t)) ≡ first_bad_line l (sql_units (drop at t))
pair_bad t at l e = ap (λ z. first_bad_line (l + newlines (take 2 (drop at t))) (sql_units z)) (sym (later 2 at t)) ∙ go (drop at t) e
  where
    two : (x y : ℕ) (us : List Text) → is_bad_unit (x ∷ []) ≡ false → is_bad_unit (y ∷ []) ≡ false → first_bad_line (l + newlines (x ∷ []) + newlines (y ∷ [])) us ≡ first_bad_line l ((x ∷ []) ∷ (y ∷ []) ∷ us)
    two x y us a b = rw (a, b, first_bad_line) refl

    case : (x y : ℕ) (r : Text) → newlines (x ∷ []) ≡ 0 → newlines (y ∷ []) ≡ 0 → is_bad_unit (x ∷ []) ≡ false → is_bad_unit (y ∷ []) ≡ false → sql_units (x ∷ y ∷ r) ≡ (x ∷ []) ∷ (y ∷ []) ∷ sql_units r
        → first_bad_line (l + newlines (x ∷ y ∷ [])) (sql_units r) ≡ first_bad_line l (sql_units (x ∷ y ∷ r))
    case x y r m n a b us =
        let k : l + newlines (x ∷ y ∷ []) ≡ l + newlines (x ∷ []) + newlines (y ∷ []) = omega arith in
        ap (λ z. first_bad_line z (sql_units r)) k ∙ two x y (sql_units r) a b ∙ ap (first_bad_line l) (sym us)

    go : (s : Text) → begins_pair s ≡ true → first_bad_line (l + newlines (take 2 s)) (sql_units (drop 2 s)) ≡ first_bad_line l (sql_units s)
    go s e = step (begins_with (codes "::") s) (begins_with (codes "->") s) refl refl e
      where
        step : (x y : Bool) → begins_with (codes "::") s ≡ x → begins_with (codes "->") s ≡ y → (x || y) ≡ true
            → first_bad_line (l + newlines (take 2 s)) (sql_units (drop 2 s)) ≡ first_bad_line l (sql_units s)
        step true y h k e = subst (λ z. first_bad_line (l + newlines (take 2 z)) (sql_units (drop 2 z)) ≡ first_bad_line l (sql_units z)) (sym (begins_split (codes "::") s h))
            (case 58 58 (drop 2 s) refl refl refl refl (pair_is 58 58 (drop 2 s) false l refl refl refl refl))
        step false true h k e = subst (λ z. first_bad_line (l + newlines (take 2 z)) (sql_units (drop 2 z)) ≡ first_bad_line l (sql_units z)) (sym (begins_split (codes "->") s k))
            (case 45 62 (drop 2 s) refl refl refl refl (pair_is 45 62 (drop 2 s) false l refl refl refl refl))
        step false false h k e = absurd (cc)
