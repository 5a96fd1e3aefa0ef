-- Longest matches: `lexeme_end` finds the one that stands at the beginning of a text, and there is no other.
use Rattle.std.proofs.Common.{◌≡◌, ℕ, zero, suc, ◌<◌, ◌≤◌, Bool, true, false, not, ◌&&◌, inl, inr, [], ◌∷◌, ◌++◌, length, take, drop, Option, Some, None, refl, sym, ap, ◌∙◌, subst, arith, length-append, append_assoc}
use Rattle.std.specs.Prelude.{codes, ◌||◌, nat_le, option_map, if◌then◌else◌}
use Rattle.std.proofs.lemmas.List.{take_at, drop_at, take-append-drop, length-take}
use Rattle.std.specs.Cmp.Lexicographic.{bytes_decides}
use Rattle.std.specs.Option.{unwrap_or}
use Rattle.std.proofs.lemmas.Bool.{cases_order}
use Rattle.std.proofs.lemmas.Bool.Decides.{nat_tests}
use Rattle.ec_language.specs.Letters.{Text, is_digit, is_word_start, is_word_byte, is_number_byte, is_quote, is_not_newline, begins, begins_with, each}
use Rattle.ec_language.specs.CText.{closes_comment, closes_quote}
use Rattle.ec_language.specs.Lexemes.{Class, word, number, comment, is_comment, class_of, Longest}
use Rattle.ec_language.specs.ReadPieces.{Behind, passed, cut, endless, behind_all, comment_end, quote_end, front}
use Rattle.ec_language.specs.ReadTokens.{mark_class, mark_end, quoted_class, lexeme_end, with_front, lexeme}
use Rattle.ec_language.proofs.Ends.{Split, comment_sound, comment_complete, quote_sound, quote_complete}
use Rattle.ec_language.proofs.Classes.{two_bytes}
use Rattle.ec_language.proofs.CWalks.{front_is}
use Rattle.ec_language.proofs.Marks.{same_text_is, is_mark_byte, is_like_mark, mark_is_like, no_mark, if_class, word_class, number_class, quote_class, mark_or_comment}

-- ---- fronts of one text

-- fronts of one length are one
pub same_front : (u r v s : Text) → u ++ r ≡ v ++ s → length u ≡ length v → (u ≡ v) × (r ≡ s)
same_front u r v s e n = (
  sym (take_at u r (length u) refl) ∙ ap (take (length u)) e ∙ take_at v s (length u) (sym n),
  sym (drop_at u r (length u) refl) ∙ ap (drop (length u)) e ∙ drop_at v s (length u) (sym n),
)

-- a front is so many bytes of the text
pub taken : (t u r : Text) → t ≡ u ++ r → take (length u) t ≡ u
taken t u r e = ap (take (length u)) e ∙ take_at u r (length u) refl

-- two longest matches at one place are one
pub same_match : (u r v s : Text) (c d : Class) → u ++ r ≡ v ++ s → Longest u r c → Longest v s d → (u ≡ v) × (r ≡ s) × (c ≡ d)
same_match u r v s c d e x y = elim (cases_order (length u) (length v)) [
  | inl n ↦ (let k = same_front u r v s e n in (k.0, k.1, let h : class_of u ≡ Some d = subst (λ t. class_of t ≡ Some d) (sym k.0) y.is in let g = x.is in cc))
  | inr (inl n) ↦ absurd (let h = x.longest v s e n in let g = y.is in cc)
  | inr (inr n) ↦ absurd (let h = y.longest u r (sym e) n in let g = x.is in cc)
]

-- ---- what stands at the beginning of a text

-- The longest match of a text is this, or no front of it is of any class.
abbrev pub Lexed : Text → Option (Class × Text) → Type 0
Lexed text None = (u rest : Text) → text ≡ u ++ rest → class_of u ≡ None
Lexed text (Some p) = (u : Text) × (text ≡ u ++ p.1) × Longest u p.1 p.0

-- ---- as many bytes as pass a test

record Spanned (test : ℕ → Bool) (text rest : Text) : Type 0 where
  unit : Text
  whole : text ≡ unit ++ rest
  fits : each test unit ≡ true
  longest : (longer behind : Text) → text ≡ longer ++ behind → length unit < length longer → each test longer ≡ false

spanned : (test : ℕ → Bool) (text : Text) → Spanned test text (behind_all test text)
spanned test [] = record { unit = []; whole = refl; fits = refl; longest = λ longer behind e n. none longer behind e n }
  where
    none : (longer behind : Text) → [] ≡ longer ++ behind → 0 < length longer → each test longer ≡ false
    none [] behind e n = absurd (omega arith)
    none (c ∷ w) behind e n = absurd (cc)
spanned test (b ∷ bs) = step (test b) refl (spanned test bs)
  where
    none : test b ≡ false → (longer behind : Text) → b ∷ bs ≡ longer ++ behind → 0 < length longer → each test longer ≡ false
    none h [] behind e n = absurd (omega arith)
    none h (c ∷ w) behind e n = let same : b ≡ c = cc in let k : test c ≡ false = subst (λ x. test x ≡ false) same h in λ i. k i && each test w

    more : (s : Spanned test bs (behind_all test bs)) (longer behind : Text) → b ∷ bs ≡ longer ++ behind → suc (length s.unit) < length longer → each test longer ≡ false
    more s [] behind e n = absurd (omega arith)
    more s (c ∷ w) behind e n = let k = s.longest w behind (cc) (omega arith) in ap (λ x. test c && x) k ∙ last (test c)
      where
        last : (x : Bool) → (x && false) ≡ false
        last true = refl
        last false = refl

    step : (t : Bool) → test b ≡ t → Spanned test bs (behind_all test bs) → Spanned test (b ∷ bs) (elim t [ true ↦ behind_all test bs | false ↦ b ∷ bs ])
    step true h s = record { unit = b ∷ s.unit; whole = ap (λ x. b ∷ x) s.whole; fits = (λ i. h i && s.fits i); longest = more s }
    step false h s = record { unit = []; whole = refl; fits = refl; longest = none h }

-- a first byte, and behind it what passes a test
span_lexed : (test : ℕ → Bool) (class : Class) (b : ℕ) (bs : Text) → ((w : Text) → class_of (b ∷ w) ≡ if_class (each test w) class)
    → Lexed (b ∷ bs) (Some (class, behind_all test bs))
span_lexed test class b bs of = let s = spanned test bs in
    (b ∷ s.unit, ap (λ x. b ∷ x) s.whole, record { is = of s.unit ∙ ap (λ x. if_class x class) s.fits; longest = longer s })
  where
    longer : (s : Spanned test bs (behind_all test bs)) (v behind : Text) → (b ∷ s.unit) ++ behind_all test bs ≡ v ++ behind → suc (length s.unit) < length v → class_of v ≡ None
    longer s [] behind e n = absurd (omega arith)
    longer s (c ∷ w) behind e n =
        let same : b ≡ c = cc in
        let rest : s.unit ++ behind_all test bs ≡ w ++ behind = cc in
        let k = s.longest w behind (s.whole ∙ rest) (omega arith) in
        subst (λ x. class_of (x ∷ w) ≡ None) same (of w ∙ ap (λ x. if_class x class) k)

-- ---- quotes

quote_lexed : (b : ℕ) (bs : Text) → ((w : Text) → class_of (b ∷ w) ≡ if_class (closes_quote b w) (quoted_class b))
    → Lexed (b ∷ bs) (elim (quote_end b bs) [ passed rest ↦ Some (quoted_class b, rest) | cut rest ↦ None | endless ↦ None ])
quote_lexed b bs of = step (quote_end b bs) refl
  where
    closed : (w behind : Text) (t : Bool) → closes_quote b w ≡ t → bs ≡ w ++ behind → (quote_end b bs ≡ passed behind → t ≡ false) → t ≡ false
    closed w behind false h e never = refl
    closed w behind true h e never = never (ap (quote_end b) e ∙ quote_complete b w behind h)

    none : ((rest : Text) → quote_end b bs ≡ passed rest → ⊥) → (u rest : Text) → b ∷ bs ≡ u ++ rest → class_of u ≡ None
    none never [] rest e = refl
    none never (c ∷ w) rest e =
        let same : b ≡ c = cc in
        let k = closed w rest (closes_quote b w) refl (cc) (λ h. absurd (never rest h)) in
        subst (λ x. class_of (x ∷ w) ≡ None) same (of w ∙ ap (λ x. if_class x (quoted_class b)) k)

    longer : (r : Text) → quote_end b bs ≡ passed r → (s : Split (closes_quote b) bs r) (v behind : Text) → (b ∷ s.unit) ++ r ≡ v ++ behind → suc (length s.unit) < length v → class_of v ≡ None
    longer r h s [] behind e n = absurd (omega arith)
    longer r h s (c ∷ w) behind e n =
        let same : b ≡ c = cc in
        let rest : s.unit ++ r ≡ w ++ behind = cc in
        let k = closed w behind (closes_quote b w) refl (s.whole ∙ rest)
        (λ g. absurd (let one : r ≡ behind = cc in omega (arith, ap length rest, ap length one, length-append s.unit r, length-append w behind))) in
        subst (λ x. class_of (x ∷ w) ≡ None) same (of w ∙ ap (λ x. if_class x (quoted_class b)) k)

    step : (end : Behind) → quote_end b bs ≡ end → Lexed (b ∷ bs) (elim end [ passed rest ↦ Some (quoted_class b, rest) | cut rest ↦ None | endless ↦ None ])
    step (passed r) h = let s = quote_sound b bs r h in
        (b ∷ s.unit, ap (λ x. b ∷ x) s.whole, record { is = of s.unit ∙ ap (λ x. if_class x (quoted_class b)) s.fits; longest = longer r h s })
    step (cut r) h = none (λ rest g. absurd (cc))
    step endless h = none (λ rest g. absurd (cc))

-- ---- marks

-- The longest mark of at most so many bytes.
abbrev Marked : ℕ → Text → Option (Class × Text) → Type 0
Marked n text None = (k : ℕ) → 0 < k → k ≤ n → mark_class (take k text) ≡ None
Marked n text (Some p) = (k : ℕ) × (p.1 ≡ drop k text) × (mark_class (take k text) ≡ Some p.0) × ((j : ℕ) → k < j → j ≤ n → mark_class (take j text) ≡ None)

with_more : (n low : ℕ) (text : Text) → mark_class (take (suc n) text) ≡ None → ((j : ℕ) → low < j → j ≤ n → mark_class (take j text) ≡ None)
    → (j : ℕ) → low < j → j ≤ suc n → mark_class (take j text) ≡ None
with_more n low text e below j l h = elim (cases_order j (suc n)) [
  | inl same ↦ subst (λ x. mark_class (take x text) ≡ None) (sym same) e
  | inr (inl less) ↦ below j l (omega arith)
  | inr (inr more) ↦ absurd (omega arith)
]

marked_more : (n : ℕ) (text : Text) (end : Option (Class × Text)) → mark_class (take (suc n) text) ≡ None → Marked n text end → Marked (suc n) text end
marked_more n text None e m = with_more n 0 text e m
marked_more n text (Some p) e m = (m.0, m.1, m.2, with_more n m.0 text e m.3)

marked : (n : ℕ) (text : Text) → Marked n text (mark_end n text)
marked zero text = λ k l h. absurd (omega arith)
marked (suc n) text = step (mark_class (take (suc n) text)) refl (marked n text)
  where
    step : (m : Option Class) → mark_class (take (suc n) text) ≡ m → Marked n text (mark_end n text)
        → Marked (suc n) text (elim m [ Some class ↦ Some (class, drop (suc n) text) | None ↦ mark_end n text ])
    step (Some c) h below = (suc n, refl, h, λ j l k. absurd (omega arith))
    step None h below = marked_more n text (mark_end n text) h below

-- a text that is a word, a number or a quote by its first byte, or a comment, has no marks
record OnlyMarks (text : Text) : Type 0 where
  front_class : (u rest : Text) → text ≡ u ++ rest → class_of u ≡ mark_class u

only_marks : (b : ℕ) (bs : Text) → is_word_start b ≡ false → is_digit b ≡ false → is_quote b ≡ false
    → ((w rest : Text) → bs ≡ w ++ rest → is_comment (b ∷ w) ≡ false) → OnlyMarks (b ∷ bs)
only_marks b bs e d q none = record { front_class = of }
  where
    of : (u rest : Text) → b ∷ bs ≡ u ++ rest → class_of u ≡ mark_class u
    of [] rest h = refl
    of (c ∷ w) rest h =
        let same : b ≡ c = cc in
        subst (λ x. class_of (x ∷ w) ≡ mark_class (x ∷ w)) same
        (mark_or_comment b w e d q ∙ ap (λ x. if x then Some comment else mark_class (b ∷ w)) (none w rest (cc)))

-- no mark is longer than three bytes
longer_mark : (text : Text) (k : ℕ) → ((j : ℕ) → k < j → j ≤ 3 → mark_class (take j text) ≡ None) → (u rest : Text) → text ≡ u ++ rest → k < length u → mark_class u ≡ None
longer_mark text k below u rest e n = step (mark_class u) refl
  where
    short : (x y z v : Bool) → (x && y && z && v) ≡ true → x ≡ true
    short true y z v h = refl
    short false true true true h = h
    short false true true false h = h
    short false true false v h = absurd (cc)
    short false false z v h = absurd (cc)

    step : (m : Option Class) → mark_class u ≡ m → m ≡ None
    step None h = refl
    step (Some c) h =
        let like = mark_is_like u c h in
        let few = short (nat_le (length u) 3) (begins is_mark_byte u) (not (begins_with (codes "/*") u)) (not (begins_with (codes "//") u)) like in
        let le : length u ≤ 3 = grind (arith, nat_tests, few) in
        let k = below (length u) n le in
        let same = taken text u rest e in
        let other : mark_class u ≡ None = subst (λ x. mark_class x ≡ None) same k in
        cc

marks_lexed : (text : Text) → OnlyMarks text → Lexed text (mark_end 3 text)
marks_lexed text only = step (mark_end 3 text) (marked 3 text)
  where
    step : (end : Option (Class × Text)) → Marked 3 text end → Lexed text end
    step None m = none
      where
        none : (u rest : Text) → text ≡ u ++ rest → class_of u ≡ None
        none [] rest e = refl
        none (c ∷ w) rest e = only.front_class (c ∷ w) rest e ∙ longer_mark text 0 m (c ∷ w) rest e (omega arith)
    step (Some p) m = (take m.0 text, sym whole, record { is = only.front_class (take m.0 text) p.1 (sym whole) ∙ m.2; longest = longer })
      where
        whole : take m.0 text ++ p.1 ≡ text
        whole = ap (λ x. take m.0 text ++ x) m.1 ∙ take-append-drop m.0 text

        longer : (v behind : Text) → take m.0 text ++ p.1 ≡ v ++ behind → length (take m.0 text) < length v → class_of v ≡ None
        longer v behind e n =
            let full : text ≡ v ++ behind = sym whole ∙ e in
            only.front_class v behind full ∙ longer_mark text m.0 m.3 v behind full (omega (arith, length-take m.0 text, ap length full, length-append v behind))

-- ---- comments

begins_two : (x y : ℕ) (rest v behind : Text) → x ∷ y ∷ rest ≡ v ++ behind → 1 < length v → (w : Text) × (v ≡ x ∷ y ∷ w) × (rest ≡ w ++ behind)
begins_two x y rest [] behind e n = absurd (omega arith)
begins_two x y rest (a ∷ []) behind e n = absurd (omega arith)
begins_two x y rest (a ∷ c ∷ w) behind e n = (w, (let p : x ≡ a = cc in let q : y ≡ c = cc in cc), cc)

-- what begins as a comment is one or is nothing, if it has more than a byte
comment_class : (y : ℕ) (w : Text) (t : Bool) → is_like_mark (47 ∷ y ∷ w) ≡ false → is_comment (47 ∷ y ∷ w) ≡ t → class_of (47 ∷ y ∷ w) ≡ if_class t comment
comment_class y w t like e = mark_or_comment 47 (y ∷ w) refl refl refl ∙ (λ i. if e i then Some comment else no_mark (47 ∷ y ∷ w) like i)

not_like : (x : Bool) → (x && false) ≡ false
not_like true = refl
not_like false = refl

block_not_like : (w : Text) → is_like_mark (47 ∷ 42 ∷ w) ≡ false
block_not_like w = ap (λ x. x && true) (not_like (nat_le (length (47 ∷ 42 ∷ w)) 3 && true))

line_not_like : (w : Text) → is_like_mark (47 ∷ 47 ∷ w) ≡ false
line_not_like w = not_like (nat_le (length (47 ∷ 47 ∷ w)) 3 && true && true)

block_is : (w : Text) → is_comment (47 ∷ 42 ∷ w) ≡ closes_comment w
block_is w = last (closes_comment w)
  where
    last : (t : Bool) → (t || false) ≡ t
    last true = refl
    last false = refl

line_is : (w : Text) → is_comment (47 ∷ 47 ∷ w) ≡ each is_not_newline w
line_is w = refl

line_lexed : (bs : Text) → Lexed (47 ∷ 47 ∷ bs) (Some (comment, behind_all is_not_newline bs))
line_lexed bs = let s = spanned is_not_newline bs in
    (47 ∷ 47 ∷ s.unit, ap (λ x. 47 ∷ 47 ∷ x) s.whole, record { is = comment_class 47 s.unit true (line_not_like s.unit) (line_is s.unit ∙ s.fits); longest = longer s })
  where
    longer : (s : Spanned is_not_newline bs (behind_all is_not_newline bs)) (v behind : Text) → 47 ∷ 47 ∷ s.unit ++ behind_all is_not_newline bs ≡ v ++ behind
        → suc (suc (length s.unit)) < length v → class_of v ≡ None
    longer s v behind e n =
        let t = begins_two 47 47 (s.unit ++ behind_all is_not_newline bs) v behind e (omega arith) in
        let k = s.longest t.0 behind (s.whole ∙ t.2) (omega (arith, ap length t.1)) in
        subst (λ x. class_of x ≡ None) (sym t.1) (comment_class 47 t.0 false (line_not_like t.0) (line_is t.0 ∙ k))

block_lexed : (bs r : Text) → comment_end bs ≡ passed r → Lexed (47 ∷ 42 ∷ bs) (Some (comment, r))
block_lexed bs r h = let s = comment_sound bs r h in
    (47 ∷ 42 ∷ s.unit, ap (λ x. 47 ∷ 42 ∷ x) s.whole, record { is = comment_class 42 s.unit true (block_not_like s.unit) (block_is s.unit ∙ s.fits); longest = longer s })
  where
    open_still : (w behind : Text) (t : Bool) → closes_comment w ≡ t → bs ≡ w ++ behind → (r ≡ behind → ⊥) → closes_comment w ≡ false
    open_still w behind false k e other = k
    open_still w behind true k e other = absurd (let g : comment_end bs ≡ passed behind = ap comment_end e ∙ comment_complete w behind k in other (cc))

    longer : (s : Split closes_comment bs r) (v behind : Text) → 47 ∷ 42 ∷ s.unit ++ r ≡ v ++ behind → suc (suc (length s.unit)) < length v → class_of v ≡ None
    longer s v behind e n =
        let t = begins_two 47 42 (s.unit ++ r) v behind e (omega arith) in
        let k = open_still t.0 behind (closes_comment t.0) refl (s.whole ∙ t.2)
        (λ one. absurd (omega (arith, ap length t.1, ap length t.2, ap length one, length-append s.unit r, length-append t.0 behind))) in
        subst (λ x. class_of x ≡ None) (sym t.1) (comment_class 42 t.0 false (block_not_like t.0) (block_is t.0 ∙ k))

-- a comment that isn't closed is none
block_open : (bs : Text) → ((r : Text) → comment_end bs ≡ passed r → ⊥) → Lexed (47 ∷ 42 ∷ bs) (mark_end 3 (47 ∷ 42 ∷ bs))
block_open bs never = marks_lexed (47 ∷ 42 ∷ bs) (only_marks 47 (42 ∷ bs) refl refl refl none)
  where
    shut : (w rest : Text) (t : Bool) → closes_comment w ≡ t → bs ≡ w ++ rest → closes_comment w ≡ false
    shut w rest false k e = k
    shut w rest true k e = absurd (never rest (ap comment_end e ∙ comment_complete w rest k))

    none : (w rest : Text) → 42 ∷ bs ≡ w ++ rest → is_comment (47 ∷ w) ≡ false
    none [] rest e = refl
    none (c ∷ w) rest e = let same : 42 ≡ c = cc in
        subst (λ x. is_comment (47 ∷ x ∷ w) ≡ false) same (block_is w ∙ shut w rest (closes_comment w) refl (cc))

-- ---- all together

slash_lexed : (bs : Text) → Lexed (47 ∷ 42 ∷ bs) (lexeme_end (47 ∷ 42 ∷ bs))
slash_lexed bs = step (comment_end bs) refl
  where
    step : (end : Behind) → comment_end bs ≡ end → Lexed (47 ∷ 42 ∷ bs) (elim end [ passed rest ↦ Some (comment, rest) | cut rest ↦ mark_end 3 (47 ∷ 42 ∷ bs) | endless ↦ mark_end 3 (47 ∷ 42 ∷ bs) ])
    step (passed r) h = block_lexed bs r h
    step (cut r) h = block_open bs (λ x g. absurd (cc))
    step endless h = block_open bs (λ x g. absurd (cc))

-- ---- texts that begin with a text

pub begins_split : (first text : Text) → begins_with first text ≡ true → text ≡ first ++ drop (length first) text
begins_split first text e = sym (ap (λ x. x ++ drop (length first) text) (same_text_is first (take (length first) text) e) ∙ take-append-drop (length first) text)

pub begins_front : (first rest : Text) → begins_with first (first ++ rest) ≡ true
begins_front first rest = (bytes_decides first (take (length first) (first ++ rest))).1 (sym (take_at first rest (length first) refl))

pub begins_more : (first text rest : Text) → begins_with first text ≡ true → begins_with first (text ++ rest) ≡ true
begins_more first text rest e =
    let whole : text ++ rest ≡ first ++ (drop (length first) text ++ rest) = ap (λ x. x ++ rest) (begins_split first text e) ∙ append_assoc first (drop (length first) text) rest in
    subst (λ x. begins_with first x ≡ true) (sym whole) (begins_front first (drop (length first) text ++ rest))

pub begins_less : (first text rest : Text) → begins_with first (text ++ rest) ≡ false → begins_with first text ≡ false
begins_less first text rest e = step (begins_with first text) refl
  where
    step : (t : Bool) → begins_with first text ≡ t → t ≡ false
    step false h = refl
    step true h = absurd (let k = begins_more first text rest h in cc)

-- ---- all together

no_comment : (b : ℕ) (bs : Text) → begins_with (codes "/*") (b ∷ bs) ≡ false → begins_with (codes "//") (b ∷ bs) ≡ false → (w rest : Text) → bs ≡ w ++ rest → is_comment (b ∷ w) ≡ false
no_comment b bs h g w rest e =
    let k = begins_less (codes "/*") (b ∷ w) rest (subst (λ x. begins_with (codes "/*") (b ∷ x) ≡ false) e h) in
    let l = begins_less (codes "//") (b ∷ w) rest (subst (λ x. begins_with (codes "//") (b ∷ x) ≡ false) e g) in
    λ i. (k i && closes_comment (drop 1 w)) || (l i && each is_not_newline (b ∷ w))

plain_lexed : (b : ℕ) (bs : Text) → begins_with (codes "/*") (b ∷ bs) ≡ false → begins_with (codes "//") (b ∷ bs) ≡ false → Lexed (b ∷ bs) (lexeme_end (b ∷ bs))
plain_lexed b bs h g = step (is_word_start b) (is_digit b) (is_quote b) refl refl refl
  where
    comments : (x y : Bool) → x ≡ false → y ≡ false → Lexed (b ∷ bs) (mark_end 3 (b ∷ bs))
        → Lexed (b ∷ bs) (elim x [
          | true ↦ elim (comment_end (drop 1 bs)) [ passed rest ↦ Some (comment, rest) | cut rest ↦ mark_end 3 (b ∷ bs) | endless ↦ mark_end 3 (b ∷ bs) ]
          | false ↦ elim y [ true ↦ Some (comment, behind_all is_not_newline (drop 1 bs)) | false ↦ mark_end 3 (b ∷ bs) ]
        ])
    comments true y p q l = absurd (cc)
    comments false true p q l = absurd (cc)
    comments false false p q l = l

    step : (w d q : Bool) → is_word_start b ≡ w → is_digit b ≡ d → is_quote b ≡ q
        → Lexed (b ∷ bs) (elim w [
          | true ↦ Some (word, behind_all is_word_byte bs)
          | false ↦
              elim d [
                | true ↦ Some (number, behind_all is_number_byte bs)
                | false ↦
                    elim q [
                      | true ↦ elim (quote_end b bs) [ passed rest ↦ Some (quoted_class b, rest) | cut rest ↦ None | endless ↦ None ]
                      | false ↦
                          elim (begins_with (codes "/*") (b ∷ bs)) [
                            | true ↦ elim (comment_end (drop 1 bs)) [ passed rest ↦ Some (comment, rest) | cut rest ↦ mark_end 3 (b ∷ bs) | endless ↦ mark_end 3 (b ∷ bs) ]
                            | false ↦ elim (begins_with (codes "//") (b ∷ bs)) [ true ↦ Some (comment, behind_all is_not_newline (drop 1 bs)) | false ↦ mark_end 3 (b ∷ bs) ]
                          ]
                    ]
              ]
        ])
    step true d q we de qe = span_lexed is_word_byte word b bs (λ w. word_class b w we)
    step false true q we de qe = span_lexed is_number_byte number b bs (λ w. number_class b w we de)
    step false false true we de qe = quote_lexed b bs (λ w. quote_class b w we de qe)
    step false false false we de qe =
        comments (begins_with (codes "/*") (b ∷ bs)) (begins_with (codes "//") (b ∷ bs)) h g (marks_lexed (b ∷ bs) (only_marks b bs we de qe (no_comment b bs h g)))

line_full : (bs : Text) → Lexed (47 ∷ 47 ∷ bs) (lexeme_end (47 ∷ 47 ∷ bs))
line_full bs = line_lexed bs

pub lexed : (text : Text) → Lexed text (lexeme_end text)
lexed [] = none
  where
    none : (u rest : Text) → [] ≡ u ++ rest → class_of u ≡ None
    none [] rest e = refl
    none (c ∷ w) rest e = absurd (cc)
lexed (b ∷ bs) = step (begins_with (codes "/*") (b ∷ bs)) (begins_with (codes "//") (b ∷ bs)) refl refl
  where
    step : (x y : Bool) → begins_with (codes "/*") (b ∷ bs) ≡ x → begins_with (codes "//") (b ∷ bs) ≡ y → Lexed (b ∷ bs) (lexeme_end (b ∷ bs))
    step true y h g = subst (λ t. Lexed t (lexeme_end t)) (sym (two_bytes 47 42 b bs h)) (slash_lexed (drop 1 bs))
    step false true h g = subst (λ t. Lexed t (lexeme_end t)) (sym (two_bytes 47 47 b bs g)) (line_full (drop 1 bs))
    step false false h g = plain_lexed b bs h g

-- ---- with the bytes of the match

pub lexeme_sound : (text u rest : Text) (class : Class) → lexeme text ≡ Some (class, u, rest) → (text ≡ u ++ rest) × Longest u rest class
lexeme_sound text u rest class e = step (lexeme_end text) (lexed text) e
  where
    step : (end : Option (Class × Text)) → Lexed text end → option_map (with_front text) end ≡ Some (class, u, rest) → (text ≡ u ++ rest) × Longest u rest class
    step None l h = absurd (cc)
    step (Some p) l h =
        let unit : front text p.1 ≡ l.0 = ap (λ t. front t p.1) l.1 ∙ front_is l.0 p.1 in
        let c : p.0 ≡ class = ap (λ o. unwrap_or o p.0) (ap (option_map (λ q. q.0)) h) in
        let v : l.0 ≡ u = sym unit ∙ ap (λ o. unwrap_or o u) (ap (option_map (λ q. q.1)) h) in
        let r : p.1 ≡ rest = ap (λ o. unwrap_or o p.1) (ap (option_map (λ q. q.2)) h) in
        (l.1 ∙ (λ i. v i ++ r i), subst (λ x. Longest x rest class) v (subst (λ x. Longest l.0 x class) r (subst (λ x. Longest l.0 p.1 x) c l.2)))

pub lexeme_none : (text : Text) → lexeme text ≡ None → (u rest : Text) → text ≡ u ++ rest → class_of u ≡ None
lexeme_none text e = step (lexeme_end text) (lexed text) e
  where
    step : (end : Option (Class × Text)) → Lexed text end → option_map (with_front text) end ≡ None → (u rest : Text) → text ≡ u ++ rest → class_of u ≡ None
    step None l h = l
    step (Some p) l h = absurd (cc)

pub lexeme_complete : (u rest : Text) (class : Class) → Longest u rest class → lexeme (u ++ rest) ≡ Some (class, u, rest)
lexeme_complete u rest class x = step (lexeme (u ++ rest)) refl
  where
    step : (found : Option (Class × Text × Text)) → lexeme (u ++ rest) ≡ found → lexeme (u ++ rest) ≡ Some (class, u, rest)
    step None h = absurd (let k = lexeme_none (u ++ rest) h u rest refl in let g = x.is in cc)
    step (Some p) h =
        let k = lexeme_sound (u ++ rest) p.1 p.2 p.0 h in
        let same = same_match u rest p.1 p.2 class p.0 k.0 x k.1 in
        h ∙ (λ i. Some (sym same.2 i, sym same.0 i, sym same.1 i))
