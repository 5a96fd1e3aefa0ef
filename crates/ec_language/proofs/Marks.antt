-- Marks of C: with what they begin, and that a match of any class begins so too.
use Rattle.std.proofs.Common.{◌≡◌, ℕ, Bool, true, false, not, ◌&&◌, List, [], ◌∷◌, length, take, drop, Option, Some, None, refl, sym, ◌∙◌, subst, arith}
use Rattle.std.specs.Prelude.{codes, ◌==◌, ◌||◌, nat_le, nat_eq, find, option_map, if◌then◌else◌}
use Rattle.std.specs.Cmp.Lexicographic.{same_text as texts_equal}
use Rattle.std.proofs.lemmas.Bool.Decides.{nat_tests, Decides-eqb}
use Rattle.ec_ctypes.specs.declared.text.token.Punct.{Punct}
use Rattle.ec_ctypes.specs.declared.text.token.Punct.TheVariants as mark
use Rattle.ec_ctypes.specs.Texts.{punct_text}
use Rattle.ec_language.specs.Letters.{Text, single_quote, is_blank, is_digit, is_word_start, is_word_byte, is_number_byte, is_quote, is_not_newline, begins, begins_with, each, same_text}
use Rattle.ec_language.specs.CText.{closes_quote, closes_comment}
use Rattle.ec_language.specs.Lexemes.{Class, word, number, character, string, punct, left_out, comment, puncts, punct_of, is_left_out_mark, is_comment, class_of}
use Rattle.ec_language.specs.ReadTokens.{mark_class, quoted_class}

pub same_text_is : (a b : Text) → same_text a b ≡ true → a ≡ b
same_text_is a b e = texts_equal a b (sym e)

-- ---- what a mark is like

-- the bytes with which marks begin, among others
abbrev pub is_mark_byte : ℕ → Bool
is_mark_byte b = not (is_word_start b || is_digit b || is_quote b || is_blank b || b == 35)

-- a mark has at most three bytes, and doesn't begin as a comment
abbrev pub is_like_mark : Text → Bool
is_like_mark text = nat_le (length text) 3 && begins is_mark_byte text && not (begins_with (codes "/*") text) && not (begins_with (codes "//") text)

punct_is_like : (p : Punct) → is_like_mark (punct_text p) ≡ true
punct_is_like mark.Arrow = refl
punct_is_like _ = refl

found_passes : (test : Punct → Bool) (ps : List Punct) (p : Punct) → find test ps ≡ Some p → test p ≡ true
found_passes test [] p e = absurd (cc)
found_passes test (q ∷ ps) p e = step (test q) refl (found_passes test ps p) e
  where
    step : (t : Bool) → test q ≡ t → (find test ps ≡ Some p → test p ≡ true) → (if t then Some q else find test ps) ≡ Some p → test p ≡ true
    step true h more k = let same : q ≡ p = cc in subst (λ x. test x ≡ true) same h
    step false h more k = more k

punct_text_of : (text : Text) (p : Punct) → punct_of text ≡ Some p → punct_text p ≡ text
punct_text_of text p e = same_text_is (punct_text p) text (found_passes (λ q. same_text (punct_text q) text) puncts p e)

left_out_is_like : (text : Text) → is_left_out_mark text ≡ true → is_like_mark text ≡ true
left_out_is_like text e = step (same_text (codes "?") text) (same_text (codes "...") text) refl refl e
  where
    step : (s t : Bool) → same_text (codes "?") text ≡ s → same_text (codes "...") text ≡ t → (s || (t || false)) ≡ true → is_like_mark text ≡ true
    step true t h g k = subst (λ x. is_like_mark x ≡ true) (same_text_is (codes "?") text h) refl
    step false true h g k = subst (λ x. is_like_mark x ≡ true) (same_text_is (codes "...") text g) refl
    step false false h g k = absurd (cc)

pub mark_is_like : (text : Text) (c : Class) → mark_class text ≡ Some c → is_like_mark text ≡ true
mark_is_like text c e = step (is_left_out_mark text) (punct_of text) refl refl e
  where
    step : (t : Bool) (p : Option Punct) → is_left_out_mark text ≡ t → punct_of text ≡ p → (if t then Some left_out else option_map punct p) ≡ Some c → is_like_mark text ≡ true
    step true p h g k = left_out_is_like text h
    step false None h g k = absurd (cc)
    step false (Some p) h g k = subst (λ x. is_like_mark x ≡ true) (punct_text_of text p g) (punct_is_like p)

-- what is not like a mark is none
pub no_mark : (text : Text) → is_like_mark text ≡ false → mark_class text ≡ None
no_mark text e = step (mark_class text) refl
  where
    step : (m : Option Class) → mark_class text ≡ m → mark_class text ≡ None
    step None h = h
    step (Some c) h = absurd (let k = mark_is_like text c h in cc)

-- ---- a first byte that no mark has

no_slash : (b : ℕ) → is_mark_byte b ≡ false → nat_eq 47 b ≡ false
no_slash b e = step (nat_eq 47 b) refl
  where
    step : (t : Bool) → nat_eq 47 b ≡ t → nat_eq 47 b ≡ false
    step false h = h
    step true h = absurd (let same = (Decides-eqb 47 b).0 h in let k = subst (λ x. is_mark_byte x ≡ false) (sym same) e in cc)

pub no_mark_at : (b : ℕ) (w : Text) → is_mark_byte b ≡ false → mark_class (b ∷ w) ≡ None
no_mark_at b w e = no_mark (b ∷ w) (third (nat_le (length (b ∷ w)) 3) (not (begins_with (codes "/*") (b ∷ w))) (not (begins_with (codes "//") (b ∷ w))) (is_mark_byte b) e)
  where
    third : (x y u z : Bool) → z ≡ false → (x && z && y && u) ≡ false
    third x y u true h = absurd (cc)
    third true y u false h = refl
    third false y u false h = refl

pub no_comment_at : (b : ℕ) (w : Text) → is_mark_byte b ≡ false → is_comment (b ∷ w) ≡ false
no_comment_at b w e = let h = no_slash b e in
    λ i. ((h i && same_text (codes "*") (take 1 w)) && closes_comment (drop 1 w)) || ((h i && same_text (codes "/") (take 1 w)) && each is_not_newline (b ∷ w))

-- ---- the class of a text by its first byte

abbrev chain : Bool → Bool → Bool → Bool → Bool → Option Class → Option Class
chain w n q s k m = if w then Some word else if n then Some number else if q && s then Some character else if q then Some string else if k then Some comment else m

last_one : (s : Bool) → chain false false false s false None ≡ None
last_one s = refl

abbrev pub if_class : Bool → Class → Option Class
if_class t c = if t then Some c else None

pub word_class : (b : ℕ) (w : Text) → is_word_start b ≡ true → class_of (b ∷ w) ≡ if_class (each is_word_byte w) word
word_class b w e =
    let m : is_mark_byte b ≡ false = λ i. not (e i || is_digit b || is_quote b || is_blank b || b == 35) in
    let d : is_digit b ≡ false = grind (arith, nat_tests) in
    let q : is_quote b ≡ false = grind (arith, nat_tests) in
    let k = no_comment_at b w m in
    let n = no_mark_at b w m in
    (λ i. chain (e i && each is_word_byte w) (d i && each is_number_byte w) (q i && closes_quote b w) (b == single_quote) (k i) (n i)) ∙ last (each is_word_byte w)
  where
    last : (t : Bool) → chain t false false (b == single_quote) false None ≡ if_class t word
    last true = refl
    last false = last_one (b == single_quote)

pub number_class : (b : ℕ) (w : Text) → is_word_start b ≡ false → is_digit b ≡ true → class_of (b ∷ w) ≡ if_class (each is_number_byte w) number
number_class b w e d =
    let m : is_mark_byte b ≡ false = λ i. not (e i || d i || is_quote b || is_blank b || b == 35) in
    let q : is_quote b ≡ false = grind (arith, nat_tests) in
    let k = no_comment_at b w m in
    let n = no_mark_at b w m in
    (λ i. chain (e i && each is_word_byte w) (d i && each is_number_byte w) (q i && closes_quote b w) (b == single_quote) (k i) (n i)) ∙ last (each is_number_byte w)
  where
    last : (t : Bool) → chain false t false (b == single_quote) false None ≡ if_class t number
    last true = refl
    last false = last_one (b == single_quote)

pub quote_class : (b : ℕ) (w : Text) → is_word_start b ≡ false → is_digit b ≡ false → is_quote b ≡ true → class_of (b ∷ w) ≡ if_class (closes_quote b w) (quoted_class b)
quote_class b w e d q =
    let m : is_mark_byte b ≡ false = λ i. not (e i || d i || q i || is_blank b || b == 35) in
    let k = no_comment_at b w m in
    let n = no_mark_at b w m in
    (λ i. chain (e i && each is_word_byte w) (d i && each is_number_byte w) (q i && closes_quote b w) (b == single_quote) (k i) (n i)) ∙ last (closes_quote b w) (b == single_quote)
  where
    last : (t s : Bool) → chain false false t s false None ≡ if_class t (if s then character else string)
    last true true = refl
    last true false = refl
    last false s = last_one s

pub mark_or_comment : (b : ℕ) (w : Text) → is_word_start b ≡ false → is_digit b ≡ false → is_quote b ≡ false
    → class_of (b ∷ w) ≡ (if is_comment (b ∷ w) then Some comment else mark_class (b ∷ w))
mark_or_comment b w e d q =
    λ i. chain (e i && each is_word_byte w) (d i && each is_number_byte w) (q i && closes_quote b w) (b == single_quote) (is_comment (b ∷ w)) (mark_class (b ∷ w))
