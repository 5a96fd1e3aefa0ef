-- Marks are longest matches before what follows them in written C.
use Rattle.std.proofs.Common.{◌≡◌, ℕ, ◌<◌, Bool, true, false, not, ◌&&◌, List, [], ◌∷◌, ◌++◌, length, take, drop, refl, ap, sym, ◌∙◌, subst, arith, Option, Some, None, append-nil}
use Rattle.std.specs.Prelude.{codes, nat_eq, ◌==◌, ◌||◌, find, option_map, if◌then◌else◌}
use Rattle.std.specs.List.{concat}
use Rattle.std.proofs.lemmas.Bool.{false≢true}
use Rattle.std.proofs.lemmas.Bool.Decides.{nat_tests}
use Rattle.ec_ctypes.specs.declared.text.token.Punct.{Punct}
use Rattle.ec_ctypes.specs.declared.text.token.Punct.TheVariants as mark
use Rattle.ec_ctypes.specs.Texts.{punct_text}
use Rattle.ec_language.specs.Letters.{Text, lower, is_digit, is_word_start, is_quote, is_not_newline, begins, each, same_text}
use Rattle.ec_language.specs.Line.{newlines}
use Rattle.ec_language.specs.CText.{is_single, CUnit, CUnits, closes_comment}
use Rattle.ec_language.specs.CText as unit
use Rattle.ec_language.specs.Pieces.{starts_piece, NoneStarts}
use Rattle.ec_language.specs.Lexemes.{Class, punct, left_out, comment, puncts, punct_of, is_left_out_mark, is_comment, class_of, Longest}
use Rattle.ec_language.specs.ReadTokens.{mark_class}
use Rattle.ec_language.proofs.Ends.{both}
use Rattle.ec_language.proofs.Marks.{same_text_is, mark_or_comment}
use Rattle.ec_writing_defs.proofs.Starts.{not_true, starting}

-- ---- no embedded piece starts

pub no_start : (b : ℕ) (bs : Text) → is_word_start b ≡ false → starts_piece (b ∷ bs) ≡ false
no_start b bs h = not_true (starts_piece (b ∷ bs)) (λ e. let s = starting (b ∷ bs) e in let k = s.exec in let l : lower b ≡ 101 = cc in letter b h l)
  where
    letter : (b : ℕ) → is_word_start b ≡ false → lower b ≡ 101 → ⊥
    letter b h l = grind (arith, nat_tests)

-- ---- what a longer text is

pub longer_front : (u r v s : Text) → u ++ r ≡ v ++ s → length u < length v → (b : ℕ) × (w : Text) × (v ≡ u ++ b ∷ w) × (r ≡ b ∷ w ++ s)
longer_front [] r [] s e l = absurd (omega arith)
longer_front [] r (b ∷ w) s e l = (b, w, refl, e)
longer_front (a ∷ u) r [] s e l = absurd (omega arith)
longer_front (a ∷ u) r (c ∷ v) s e l =
    let f : u ++ r ≡ v ++ s = cc in
    let g : c ≡ a = cc in
    let k = longer_front u r v s f (omega arith) in
    (k.0, k.1, (λ i. g i ∷ k.2 i), k.3)

-- ---- bytes of marks behind the first

abbrev pub is_tail : ℕ → Bool
is_tail b = b == 62 || b == 43 || b == 45 || b == 60 || b == 61 || b == 38 || b == 124 || b == 46 || b == 47 || b == 42

abbrev tail_ok : Text → Bool
tail_ok text = each is_tail (drop 1 text)

punct_ok : (p : Punct) → tail_ok (punct_text p) ≡ true
punct_ok mark.Arrow = refl
punct_ok _ = refl

found_passes : (test : Punct → Bool) (ps : List Punct) (p : Punct) → find test ps ≡ Some p → test p ≡ true
found_passes test [] p e = absurd (cc)
found_passes test (q ∷ ps) p e = step (test q) refl (found_passes test ps p) e
  where
    step : (t : Bool) → test q ≡ t → (find test ps ≡ Some p → test p ≡ true) → (if t then Some q else find test ps) ≡ Some p → test p ≡ true
    step true h more k = let same : q ≡ p = cc in subst (λ x. test x ≡ true) same h
    step false h more k = more k

marks_ok : (text : Text) (c : Class) → mark_class text ≡ Some c → tail_ok text ≡ true
marks_ok text c e = step (is_left_out_mark text) (punct_of text) refl refl e
  where
    left : (text : Text) → is_left_out_mark text ≡ true → tail_ok text ≡ true
    left text e = go (same_text (codes "?") text) (same_text (codes "...") text) refl refl e
      where
        go : (s t : Bool) → same_text (codes "?") text ≡ s → same_text (codes "...") text ≡ t → (s || (t || false)) ≡ true → tail_ok text ≡ true
        go true t h g k = subst (λ x. tail_ok x ≡ true) (same_text_is (codes "?") text h) refl
        go false true h g k = subst (λ x. tail_ok x ≡ true) (same_text_is (codes "...") text g) refl
        go false false h g k = absurd (false≢true k)

    step : (t : Bool) (p : Option Punct) → is_left_out_mark text ≡ t → punct_of text ≡ p → (if t then Some left_out else option_map punct p) ≡ Some c → tail_ok text ≡ true
    step true p h g k = left text h
    step false None h g k = absurd (cc)
    step false (Some p) h g k = subst (λ x. tail_ok x ≡ true) (same_text_is (punct_text p) text (found_passes (λ q. same_text (punct_text q) text) puncts p g)) (punct_ok p)

no_mark : (text : Text) → tail_ok text ≡ false → mark_class text ≡ None
no_mark text h = go (mark_class text) refl
  where
    go : (m : Option Class) → mark_class text ≡ m → mark_class text ≡ None
    go None e = e
    go (Some c) e = absurd (false≢true (sym h ∙ marks_ok text c e))

no_comment : (x y z : Bool) → ((x && false) && y || (x && false) && z) ≡ false
no_comment true y z = refl
no_comment false y z = refl

one_none : (a b : ℕ) (w : Text) → is_word_start a ≡ false → is_digit a ≡ false → is_quote a ≡ false → is_tail b ≡ false → class_of (a ∷ b ∷ w) ≡ None
one_none a b w e d q t =
    let m : nat_eq 42 b ≡ false = grind (arith, nat_tests) in
    let n : nat_eq 47 b ≡ false = grind (arith, nat_tests) in
    let k : is_comment (a ∷ b ∷ w) ≡ false = (λ i. ((nat_eq 47 a && (m i && true)) && closes_comment w || (nat_eq 47 a && (n i && true)) && each is_not_newline (a ∷ b ∷ w))) ∙ no_comment (nat_eq 47 a) (closes_comment w) (each is_not_newline (a ∷ b ∷ w)) in
    let s : tail_ok (a ∷ b ∷ w) ≡ false = λ i. t i && each is_tail w in
    mark_or_comment a (b ∷ w) e d q ∙ (λ i. if k i then Some comment else no_mark (a ∷ b ∷ w) s i)

-- of two bytes that don't begin a comment
two_none : (a c b : ℕ) (w : Text) → is_word_start a ≡ false → is_digit a ≡ false → is_quote a ≡ false → nat_eq 47 a ≡ false → is_tail c ≡ true → is_tail b ≡ false → class_of (a ∷ c ∷ b ∷ w) ≡ None
two_none a c b w e d q z u t =
    let s : tail_ok (a ∷ c ∷ b ∷ w) ≡ false = λ i. u i && (t i && each is_tail w) in
    mark_or_comment a (c ∷ b ∷ w) e d q ∙ (λ i. if (z i && (nat_eq 42 c && true)) && closes_comment (b ∷ w) || (z i && (nat_eq 47 c && true)) && each is_not_newline (a ∷ c ∷ b ∷ w) then Some comment else no_mark (a ∷ c ∷ b ∷ w) s i)

-- ---- marks that nothing longer begins with

abbrev pub is_closed : Punct → Bool
is_closed mark.Minus = false
is_closed mark.Plus = false
is_closed mark.And = false
is_closed mark.Star = false
is_closed mark.Less = false
is_closed mark.Greater = false
is_closed mark.Not = false
is_closed mark.Slash = false
is_closed mark.Percent = false
is_closed mark.Caret = false
is_closed mark.Or = false
is_closed mark.Assign = false
is_closed mark.Dot = false
is_closed mark.Shl = false
is_closed mark.Shr = false
is_closed _ = true

-- A mark before this text: nothing longer begins there. Stars may stand together.
abbrev pub is_apart : Punct → Text → Bool
is_apart mark.Star text = elim (begins is_tail text) [ true ↦ begins (λ b. b == 42) text | false ↦ true ]
is_apart p text = is_closed p || not (begins is_tail text)

turned : (b : Bool) → (false || not b) ≡ true → b ≡ false
turned true h = absurd (false≢true h)
turned false h = refl

apart_none : (p : Punct) (b : ℕ) (w r : Text) → is_apart p (b ∷ r) ≡ true → class_of (punct_text p ++ b ∷ w) ≡ None
apart_none mark.Star b w r h = go (is_tail b) refl (b == 42) refl h
  where
    go : (t : Bool) → is_tail b ≡ t → (s : Bool) → (b == 42) ≡ s → elim t [ true ↦ s | false ↦ true ] ≡ true → class_of (42 ∷ b ∷ w) ≡ None
    go false e s f k = one_none 42 b w refl refl refl e
    go true e false f k = absurd (false≢true k)
    go true e true f k = let same : 42 ≡ b = grind (arith, nat_tests) in subst (λ x. class_of (42 ∷ x ∷ w) ≡ None) same refl
apart_none mark.Minus b w r h = one_none 45 b w refl refl refl (turned (is_tail b) h)
apart_none mark.Plus b w r h = one_none 43 b w refl refl refl (turned (is_tail b) h)
apart_none mark.And b w r h = one_none 38 b w refl refl refl (turned (is_tail b) h)
apart_none mark.Less b w r h = one_none 60 b w refl refl refl (turned (is_tail b) h)
apart_none mark.Greater b w r h = one_none 62 b w refl refl refl (turned (is_tail b) h)
apart_none mark.Not b w r h = one_none 33 b w refl refl refl (turned (is_tail b) h)
apart_none mark.Slash b w r h = one_none 47 b w refl refl refl (turned (is_tail b) h)
apart_none mark.Percent b w r h = one_none 37 b w refl refl refl (turned (is_tail b) h)
apart_none mark.Caret b w r h = one_none 94 b w refl refl refl (turned (is_tail b) h)
apart_none mark.Or b w r h = one_none 124 b w refl refl refl (turned (is_tail b) h)
apart_none mark.Assign b w r h = one_none 61 b w refl refl refl (turned (is_tail b) h)
apart_none mark.Dot b w r h = one_none 46 b w refl refl refl (turned (is_tail b) h)
apart_none mark.Shl b w r h = two_none 60 60 b w refl refl refl refl refl (turned (is_tail b) h)
apart_none mark.Shr b w r h = two_none 62 62 b w refl refl refl refl refl (turned (is_tail b) h)
apart_none _ b w r h = refl

pub punct_longest : (p : Punct) (rest : Text) → is_apart p rest ≡ true → Longest (punct_text p) rest (punct p)
punct_longest p rest h = record { is = class_is p; longest = longer }
  where
    class_is : (p : Punct) → class_of (punct_text p) ≡ Some (punct p)
    class_is mark.Arrow = refl
    class_is _ = refl

    longer : (v behind : Text) → punct_text p ++ rest ≡ v ++ behind → length (punct_text p) < length v → class_of v ≡ None
    longer v behind e l =
        let k = longer_front (punct_text p) rest v behind e l in
        subst (λ x. class_of x ≡ None) (sym k.2) (apart_none p k.0 k.1 (k.1 ++ behind) (subst (λ x. is_apart p x ≡ true) k.3 h))

-- ---- units of marks

abbrev is_solo : ℕ → Bool
is_solo b = not (is_word_start b || is_digit b || is_quote b || b == 47)

pub record UnitsOf (text rest : Text) : Type 0 where
  pub units : List Text
  pub are : concat units ≡ text
  pub free : CUnits units rest
  pub none : NoneStarts units rest

pub one_unit : (u rest : Text) → CUnit u rest → starts_piece (u ++ rest) ≡ false → UnitsOf u rest
one_unit u rest c s = record {
  units = u ∷ [];
  are = append-nil u;
  free = (c, tt);
  none = ((ap (λ x. starts_piece (x ++ rest)) (append-nil u) ∙ s), tt);
}

pub more_units : (u t rest : Text) → CUnit u (t ++ rest) → starts_piece (u ++ t ++ rest) ≡ false → UnitsOf t rest → UnitsOf (u ++ t) rest
more_units u t rest c s m = record {
  units = u ∷ m.units;
  are = ap (λ x. u ++ x) m.are;
  free = (subst (λ x. CUnit u (x ++ rest)) (sym m.are) c, m.free);
  none = ((λ i. starts_piece (u ++ m.are i ++ rest)) ∙ s, m.none);
}

pub solo : (b : ℕ) (bs rest : Text) → is_solo b ≡ true → UnitsOf bs rest → UnitsOf (b ∷ bs) rest
solo b bs rest h m = more_units (b ∷ []) bs rest (unit.single (b ∷ []) (bs ++ rest) (is_one b (bs ++ rest) h)) (no_start b (bs ++ rest) (word_free b h)) m
  where
    word_free : (b : ℕ) → is_solo b ≡ true → is_word_start b ≡ false
    word_free b h = go (is_word_start b) (is_digit b) (is_quote b) (b == 47) h refl
      where
        go : (x y z v : Bool) → not (x || y || z || v) ≡ true → is_word_start b ≡ x → is_word_start b ≡ false
        go false y z v k e = e
        go true y z v k e = absurd (false≢true k)

    is_one : (b : ℕ) (r : Text) → is_solo b ≡ true → is_single (b ∷ []) r ≡ true
    is_one b r h = go (is_word_start b) (is_digit b) (is_quote b) (b == 47) refl refl refl refl h
      where
        go : (x y z v : Bool) → is_word_start b ≡ x → is_digit b ≡ y → is_quote b ≡ z → (b == 47) ≡ v → not (x || y || z || v) ≡ true → is_single (b ∷ []) r ≡ true
        go false false false false e f g k h = let n : nat_eq 47 b ≡ false = grind (arith, nat_tests) in λ i. not (e i || f i || g i || (n i && same_text (codes "*") (take 1 r)) || (n i && same_text (codes "/") (take 1 r)))
        go true y z v e f g k h = absurd (false≢true h)
        go false true z v e f g k h = absurd (false≢true h)
        go false false true v e f g k h = absurd (false≢true h)
        go false false false true e f g k h = absurd (false≢true h)

pub no_units : (rest : Text) → UnitsOf [] rest
no_units rest = record { units = []; are = refl; free = tt; none = tt }

pub all_solo : (bs rest : Text) → each is_solo bs ≡ true → UnitsOf bs rest
all_solo [] rest h = no_units rest
all_solo (b ∷ bs) rest h = let k = both (is_solo b) (each is_solo bs) h in solo b bs rest k.0 (all_solo bs rest k.1)

slash_unit : (rest : Text) → begins is_tail rest ≡ false → CUnit (47 ∷ []) rest
slash_unit [] h = unit.single (47 ∷ []) [] refl
slash_unit (b ∷ bs) h =
    let m : nat_eq 42 b ≡ false = grind (arith, nat_tests) in
    let n : nat_eq 47 b ≡ false = grind (arith, nat_tests) in
    unit.single (47 ∷ []) (b ∷ bs) (λ i. not (false || (m i && true) || (n i && true)))

pub punct_units : (p : Punct) (rest : Text) → is_apart p rest ≡ true → UnitsOf (punct_text p) rest
punct_units mark.Slash rest h = one_unit (47 ∷ []) rest (slash_unit rest (turned (begins is_tail rest) h)) refl
punct_units mark.SlashAssign rest h = more_units (47 ∷ []) (61 ∷ []) rest (unit.single (47 ∷ []) (61 ∷ rest) refl) refl (all_solo (61 ∷ []) rest refl)
punct_units p rest h = all_solo (punct_text p) rest refl

pub punct_flat : (p : Punct) → newlines (punct_text p) ≡ 0
punct_flat mark.Arrow = refl
punct_flat _ = refl
