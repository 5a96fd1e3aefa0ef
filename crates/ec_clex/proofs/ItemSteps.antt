-- What stands at the beginning of C text, by what the code finds there.
use Rattle.std.proofs.Common.{◌≡◌, inl, inr, ℕ, zero, suc, ◌+◌, ◌-◌, ◌<◌, ◌≤◌, Bool, true, false, [], ◌∷◌, ◌++◌, length, take, drop, get_or, Option, Some, None, Result, Ok, Err, refl, sym, ap, ◌∙◌, subst, arith, length-drop, length-append, ne_eqb}
use Rattle.std.specs.Prelude.{codes, ◌==◌, ◌&&◌, option_map, if◌then◌else◌}
use Rattle.std.proofs.lemmas.List.{length-take-le}
use Rattle.ec_base.specs.declared.fault.FaultKind.{FaultKind}
use Rattle.ec_base.specs.declared.fault.FaultKind.TheVariants.{F4, F9}
use Rattle.ec_base.specs.declared.stop.Stop.{Stop}
use Rattle.ec_base.specs.declared.stop.Stop.TheVariants.{Refused, Limit, OutOfMemory}
use Rattle.ec_ctypes.specs.declared.text.token.Tok.{Tok}
use Rattle.ec_ctypes.specs.trees.Tokens.{TokData}
use Rattle.ec_ctypes.specs.views.Tokens.{tok_view}
use Rattle.ec_language.specs.Letters.{Text, single_quote, is_blank, is_digit, is_word_start, is_word_byte, is_number_byte, is_quote, is_not_newline, begins_with}
use Rattle.ec_language.specs.CText.{closes_quote}
use Rattle.ec_language.specs.Constants.{unescaped, only_byte, inside}
use Rattle.ec_language.specs.Lexemes.{Class, word, number, character, string, comment, is_line_directive, directive_number}
use Rattle.ec_language.specs.Tokens.{counted, numbered_line, token_of, bad_byte, character_tok, string_tok}
use Rattle.ec_language.specs.ReadPieces.{Behind, passed, cut, endless, comment_end, quote_end, behind_all, front, c_end}
use Rattle.ec_language.specs.ReadTokens.{quoted_class, mark_end, lexeme_end, with_front, lexeme, lexeme_item, ReadItem, ends_include, include_behind, include_item, directive_item, read_directive, read_hash, read_item}
use Rattle.ec_language.proofs.Ends.{quote_sound, turned}
use Rattle.ec_language.proofs.Classes.{quotes}
use Rattle.ec_language.proofs.LongestMatch.{begins_split}
use Rattle.ec_language.proofs.ReadSteps.{include_on}
use Rattle.ec_clex.specs.Items.{Told, at_line, item_checked, item_of, item_view, with_end, quoted_tok, quote_behind, comment_behind, hash_item}
use Rattle.ec_clex.specs.Lines.{line_of}
use Rattle.ec_split.proofs.Steps.{at_place, later}
use Rattle.ec_split.proofs.Walks.{front_slice}

-- ---- an item that is a token

told_token : (line : ℕ) (text : Text) (at end : ℕ) (r : Result TokData FaultKind) (tok : Result Tok Stop) → Told tok_view tok (at_line line r)
    → Told (item_view text at) (with_end end tok)
    (item_checked line (record { bytes = take (end - at) (drop at text); tok = Some r; step = counted; rest = drop end text }) (Some r))
told_token line text at end (Ok x) (Ok a) e =
    let same : tok_view a ≡ x = cc in ap (λ (y : TokData). Ok (record { bytes = take (end - at) (drop at text); tok = Some (Ok y); step = counted; rest = drop end text })) same
told_token line text at end (Err kind) (Ok a) e = absurd (cc)
told_token line text at end (Ok x) (Err (Refused kind l)) e = absurd (cc)
told_token line text at end (Err kind') (Err (Refused kind l)) e = let same : Refused kind l ≡ Refused kind' (record { 0 = line }) = cc in ap (λ (s : Stop). Err s) same
told_token line text at end (Ok x) (Err (Limit limit)) e = absurd (cc)
told_token line text at end (Err kind) (Err (Limit limit)) e = absurd (cc)
told_token line text at end r (Err OutOfMemory) e = tt

-- what a longest match is as an item
match_is : (text : Text) (at end : ℕ) (class : Class) → at ≤ end → end ≤ length text → lexeme_end (drop at text) ≡ Some (class, drop end text)
    → option_map lexeme_item (lexeme (drop at text))
    ≡ Some (record { bytes = take (end - at) (drop at text); tok = token_of class (take (end - at) (drop at text)); step = counted; rest = drop end text })
match_is text at end class h k e =
    ap (λ (o : Option (Class × Text)). option_map lexeme_item (option_map (with_front (drop at text)) o)) e
    ∙ ap (λ (u : Text). Some (record { bytes = u; tok = token_of class u; step = counted; rest = drop end text })) (front_slice text at end h k)

pub match_told : (line : ℕ) (text : Text) (at end : ℕ) (class : Class) (r : Result TokData FaultKind) (tok : Result Tok Stop) → at ≤ end → end ≤ length text
    → lexeme_end (drop at text) ≡ Some (class, drop end text) → token_of class (take (end - at) (drop at text)) ≡ Some r → Told tok_view tok (at_line line r)
    → Told (item_view text at) (with_end end tok) (item_of F4 line (option_map lexeme_item (lexeme (drop at text))))
match_told line text at end class r tok h k e same told =
    let is = match_is text at end class h k e
    ∙ ap (λ (o : Option (Result TokData FaultKind)). Some (record { bytes = take (end - at) (drop at text); tok = o; step = counted; rest = drop end text })) same in
    subst (Told (item_view text at) (with_end end tok)) (sym (ap (item_of F4 line) is)) (told_token line text at end r tok told)

-- ---- what a longest match ends with, by its first byte

abbrev tail_choice : Bool → Behind → Bool → Text → Option (Class × Text) → Option (Class × Text)
tail_choice x e y bs m = elim x [
  | true ↦ elim e [ passed rest ↦ Some (comment, rest) | cut rest ↦ m | endless ↦ m ]
  | false ↦ elim y [ true ↦ Some (comment, behind_all is_not_newline (drop 1 bs)) | false ↦ m ]
]

abbrev pick : Bool → Bool → Bool → ℕ → Text → Option (Class × Text)
pick w d q b bs = elim w [
  | true ↦ Some (word, behind_all is_word_byte bs)
  | false ↦ elim d [
    | true ↦ Some (number, behind_all is_number_byte bs)
    | false ↦ elim q [
      | true ↦ elim (quote_end b bs) [ passed rest ↦ Some (quoted_class b, rest) | cut rest ↦ None | endless ↦ None ]
      | false ↦ tail_choice (begins_with (codes "/*") (b ∷ bs)) (comment_end (drop 1 bs)) (begins_with (codes "//") (b ∷ bs)) bs (mark_end 3 (b ∷ bs))
    ]
  ]
]

pub word_ends : (text : Text) (at end : ℕ) → at < length text → is_word_start (get_or text at 0) ≡ true → drop end text ≡ behind_all is_word_byte (drop (at + 1) text)
    → lexeme_end (drop at text) ≡ Some (word, drop end text)
word_ends text at end h w e =
    let b = get_or text at 0 in
    let bs = drop (at + 1) text in
    ap lexeme_end (at_place text at h) ∙ ap (λ (x : Bool). pick x (is_digit b) (is_quote b) b bs) w ∙ ap (λ (r : Text). Some (word, r)) (sym e)

pub number_ends : (text : Text) (at end : ℕ) → at < length text → is_word_start (get_or text at 0) ≡ false → is_digit (get_or text at 0) ≡ true
    → drop end text ≡ behind_all is_number_byte (drop (at + 1) text) → lexeme_end (drop at text) ≡ Some (number, drop end text)
number_ends text at end h w d e =
    let b = get_or text at 0 in
    let bs = drop (at + 1) text in
    ap lexeme_end (at_place text at h) ∙ (λ i. pick (w i) (d i) (is_quote b) b bs) ∙ ap (λ (r : Text). Some (number, r)) (sym e)

quote_classes : (b : ℕ) → is_quote b ≡ true → (is_word_start b ≡ false) × (is_digit b ≡ false)
quote_classes b e = elim (quotes b e) [
  | inl p ↦ subst (λ x. (is_word_start x ≡ false) × (is_digit x ≡ false)) (sym p) (refl, refl)
  | inr p ↦ subst (λ x. (is_word_start x ≡ false) × (is_digit x ≡ false)) (sym p) (refl, refl)
]

quote_found : (b : ℕ) (bs rest : Text) → Some rest ≡ quote_behind b bs → quote_end b bs ≡ passed rest
quote_found b bs rest e = step (quote_end b bs) e
  where
    step : (x : Behind) → ◌≡◌ {A = Option Text} (Some rest) (elim x [ passed r ↦ Some r | cut r ↦ None | endless ↦ None ]) → x ≡ passed rest
    step (passed r) k = let same : rest ≡ r = cc in ap passed (sym same)
    step (cut r) k = absurd (cc)
    step endless k = absurd (cc)

pub quote_ends : (text : Text) (at end : ℕ) → at < length text → is_quote (get_or text at 0) ≡ true → Some (drop end text) ≡ quote_behind (get_or text at 0) (drop (at + 1) text)
    → lexeme_end (drop at text) ≡ Some (quoted_class (get_or text at 0), drop end text)
quote_ends text at end h q e =
    let b = get_or text at 0 in
    let bs = drop (at + 1) text in
    let other = quote_classes b q in
    ap lexeme_end (at_place text at h) ∙ (λ i. pick (other.0 i) (other.1 i) (q i) b bs)
    ∙ ap (λ (x : Behind). elim x as (λ _. Option (Class × Text)) [ passed rest ↦ Some (quoted_class b, rest) | cut rest ↦ None | endless ↦ None ]) (quote_found b bs (drop end text) e)

no_quote_found : (b : ℕ) (bs : Text) → None ≡ quote_behind b bs → ◌≡◌ {A = Option (Class × Text)} (elim (quote_end b bs) [ passed rest ↦ Some (quoted_class b, rest) | cut rest ↦ None | endless ↦ None ]) None
no_quote_found b bs e = step (quote_end b bs) e
  where
    step : (x : Behind) → ◌≡◌ {A = Option Text} None (elim x [ passed r ↦ Some r | cut r ↦ None | endless ↦ None ])
        → ◌≡◌ {A = Option (Class × Text)} (elim x [ passed rest ↦ Some (quoted_class b, rest) | cut rest ↦ None | endless ↦ None ]) None
    step (passed r) k = absurd (cc)
    step (cut r) k = refl
    step endless k = refl

pub no_quote : (text : Text) (at : ℕ) → at < length text → is_quote (get_or text at 0) ≡ true → None ≡ quote_behind (get_or text at 0) (drop (at + 1) text) → lexeme_end (drop at text) ≡ None
no_quote text at h q e =
    let b = get_or text at 0 in
    let bs = drop (at + 1) text in
    let other = quote_classes b q in
    ap lexeme_end (at_place text at h) ∙ (λ i. pick (other.0 i) (other.1 i) (q i) b bs) ∙ no_quote_found b bs e

pub no_quote_told : (line : ℕ) (text : Text) (at : ℕ) → at < length text → is_quote (get_or text at 0) ≡ true → None ≡ quote_behind (get_or text at 0) (drop (at + 1) text)
    → Err (Refused F4 (record { 0 = line })) ≡ item_of F4 line (option_map lexeme_item (lexeme (drop at text)))
no_quote_told line text at h q e = sym (ap (λ (o : Option (Class × Text)). item_of F4 line (option_map lexeme_item (option_map (with_front (drop at text)) o))) (no_quote text at h q e))

-- a quote is behind what it ends
pub quote_longer : (q : ℕ) (text : Text) (from end : ℕ) → from ≤ length text → end ≤ length text → passed (drop end text) ≡ quote_end q (drop from text) → from + 1 ≤ end
quote_longer q text from end h k e =
    let s = quote_sound q (drop from text) (drop end text) (sym e) in
    let some : 0 < length s.unit = step s.unit s.fits in
    omega (arith, ap length s.whole, length-append s.unit (drop end text), length-drop from text, length-drop end text)
  where
    step : (u : Text) → closes_quote q u ≡ true → 0 < length u
    step [] f = absurd (cc)
    step (b ∷ u) f = omega arith

-- ---- the inside of quotes

take_less : (k : ℕ) (s : Text) → take k (take (suc k) s) ≡ take k s
take_less zero s = refl
take_less (suc k) [] = refl
take_less (suc k) (b ∷ s) = ap (λ (w : Text). b ∷ w) (take_less k s)

inside_front : (b k : ℕ) (s : Text) → suc k ≤ length s → inside (take (suc (suc k)) (b ∷ s)) ≡ take k s
inside_front b k s h =
    let long : length (take (suc k) s) ≡ suc k = length-take-le (suc k) s h in
    let n : suc (length (take (suc k) s)) - 2 ≡ k = omega arith in
    ap (λ m. take m (take (suc k) s)) n ∙ take_less k s

pub inside_slice : (text : Text) (at end : ℕ) → at + 2 ≤ end → end ≤ length text → inside (take (end - at) (drop at text)) ≡ take (end - 1 - (at + 1)) (drop (at + 1) text)
inside_slice text at end h k =
    let m : ℕ = end - 1 - (at + 1) in
    let n : end - at ≡ suc (suc m) = omega arith in
    ap (λ j. inside (take j (drop at text))) n ∙ ap (λ (s : Text). inside (take (suc (suc m)) s)) (at_place text at (omega arith))
    ∙ inside_front (get_or text at 0) m (drop (at + 1) text) (omega (arith, length-drop (at + 1) text))

pub quoted_token_of : (q : ℕ) (text : Text) → token_of (quoted_class q) text ≡ Some (quoted_tok q (inside text))
quoted_token_of q text = step (q == single_quote)
  where
    step : (x : Bool) → token_of (if x then character else string) text ≡ Some (if x then character_tok (only_byte (unescaped (inside text))) else string_tok (unescaped (inside text)))
    step true = refl
    step false = refl

-- ---- comments and marks

abbrev comment_choice : Bool → Behind → Bool → Text → Option Text
comment_choice x e y s = elim x [
  | true ↦ elim e [ passed rest ↦ Some rest | cut rest ↦ None | endless ↦ None ]
  | false ↦ elim y [ true ↦ Some (behind_all is_not_newline s) | false ↦ None ]
]

pub comment_found : (text : Text) (at : ℕ) (rest : Text) → begins_with (codes "/*") (drop at text) ≡ true → passed rest ≡ comment_end (drop (at + 2) text) → Some rest ≡ comment_behind (drop at text)
comment_found text at rest x e =
    let y = begins_with (codes "//") (drop at text) in
    sym ((λ i. comment_choice (x i) (comment_end (later 2 at text i)) y (drop 2 (drop at text))) ∙ ap (λ (k : Behind). comment_choice true k y (drop 2 (drop at text))) (sym e))

pub comment_cut : (text : Text) (at : ℕ) (rest : Text) → begins_with (codes "/*") (drop at text) ≡ true → cut rest ≡ comment_end (drop (at + 2) text) → None ≡ comment_behind (drop at text)
comment_cut text at rest x e =
    let y = begins_with (codes "//") (drop at text) in
    sym ((λ i. comment_choice (x i) (comment_end (later 2 at text i)) y (drop 2 (drop at text))) ∙ ap (λ (k : Behind). comment_choice true k y (drop 2 (drop at text))) (sym e))

pub comment_endless : (text : Text) (at : ℕ) → begins_with (codes "/*") (drop at text) ≡ true → endless ≡ comment_end (drop (at + 2) text) → None ≡ comment_behind (drop at text)
comment_endless text at x e =
    let y = begins_with (codes "//") (drop at text) in
    sym ((λ i. comment_choice (x i) (comment_end (later 2 at text i)) y (drop 2 (drop at text))) ∙ ap (λ (k : Behind). comment_choice true k y (drop 2 (drop at text))) (sym e))

pub comment_line : (text : Text) (at : ℕ) (rest : Text) → begins_with (codes "/*") (drop at text) ≡ false → begins_with (codes "//") (drop at text) ≡ true
    → rest ≡ behind_all is_not_newline (drop (at + 2) text) → Some rest ≡ comment_behind (drop at text)
comment_line text at rest x y e =
    sym ((λ i. comment_choice (x i) (comment_end (drop 2 (drop at text))) (y i) (later 2 at text i)) ∙ ap (λ (r : Text). Some r) (sym e))

tail_comment : (x : Bool) (e : Behind) (y : Bool) (bs rest : Text) (m : Option (Class × Text)) → Some rest ≡ comment_choice x e y (drop 1 bs) → tail_choice x e y bs m ≡ Some (comment, rest)
tail_comment true (passed r) y bs rest m k = let same : rest ≡ r = cc in ap (λ (r : Text). Some (comment, r)) (sym same)
tail_comment true (cut r) y bs rest m k = absurd (cc)
tail_comment true endless y bs rest m k = absurd (cc)
tail_comment false e true bs rest m k = let same : rest ≡ behind_all is_not_newline (drop 1 bs) = cc in ap (λ (r : Text). Some (comment, r)) (sym same)
tail_comment false e false bs rest m k = absurd (cc)

tail_mark : (x : Bool) (e : Behind) (y : Bool) (bs : Text) (m : Option (Class × Text)) → None ≡ comment_choice x e y (drop 1 bs) → tail_choice x e y bs m ≡ m
tail_mark true (passed r) y bs m k = absurd (cc)
tail_mark true (cut r) y bs m k = refl
tail_mark true endless y bs m k = refl
tail_mark false e true bs m k = absurd (cc)
tail_mark false e false bs m k = refl

pub comment_ends : (text : Text) (at end : ℕ) → at < length text → is_word_start (get_or text at 0) ≡ false → is_digit (get_or text at 0) ≡ false → is_quote (get_or text at 0) ≡ false
    → Some (drop end text) ≡ comment_behind (drop at text) → lexeme_end (drop at text) ≡ Some (comment, drop end text)
comment_ends text at end h w d q e =
    let b = get_or text at 0 in
    let bs = drop (at + 1) text in
    ap lexeme_end (at_place text at h) ∙ (λ i. pick (w i) (d i) (q i) b bs)
    ∙ tail_comment (begins_with (codes "/*") (b ∷ bs)) (comment_end (drop 1 bs)) (begins_with (codes "//") (b ∷ bs)) bs (drop end text) (mark_end 3 (b ∷ bs)) (e ∙ ap comment_behind (at_place text at h))

pub mark_ends : (text : Text) (at : ℕ) → at < length text → is_word_start (get_or text at 0) ≡ false → is_digit (get_or text at 0) ≡ false → is_quote (get_or text at 0) ≡ false
    → None ≡ comment_behind (drop at text) → lexeme_end (drop at text) ≡ mark_end 3 (drop at text)
mark_ends text at h w d q e =
    let b = get_or text at 0 in
    let bs = drop (at + 1) text in
    ap lexeme_end (at_place text at h) ∙ (λ i. pick (w i) (d i) (q i) b bs)
    ∙ tail_mark (begins_with (codes "/*") (b ∷ bs)) (comment_end (drop 1 bs)) (begins_with (codes "//") (b ∷ bs)) bs (mark_end 3 (b ∷ bs)) (e ∙ ap comment_behind (at_place text at h))
    ∙ ap (mark_end 3) (sym (at_place text at h))

pub comment_told : (line : ℕ) (text : Text) (at end : ℕ) → at ≤ end → end ≤ length text → lexeme_end (drop at text) ≡ Some (comment, drop end text)
    → Ok (item_view text at (record { tok = None; number = None; end = end })) ≡ item_of F4 line (option_map lexeme_item (lexeme (drop at text)))
comment_told line text at end h k e = sym (ap (item_of F4 line) (match_is text at end comment h k e))

-- ---- lines with `#`

pub include_step : (text : Text) (at : ℕ) → at < length text → begins_with (codes "#include") (drop at text) ≡ true → include_behind (drop (at + 1) text) ≡ include_behind (drop at text)
include_step text at h e =
    let s = drop at text in
    let is : s ≡ codes "#include" ++ drop 8 s = begins_split (codes "#include") s e in
    let other : ends_include s ≡ false = subst (λ x. ends_include x ≡ false) (sym is) refl in
    let next : c_end s ≡ passed (drop 1 s) = subst (λ x. c_end x ≡ passed (drop 1 x)) (sym is) refl in
    sym (include_on s (drop 1 s) other next ∙ ap include_behind (later 1 at text))

pub include_hash : (written fresh : Bool) (line : ℕ) (s : Text) → fresh ≡ true → begins_with (codes "#include") s ≡ true
    → item_of F9 line (option_map (include_item s) (include_behind s)) ≡ item_of (bad_byte fresh s) line (hash_item written fresh s)
include_hash written false line s f e = absurd (cc)
include_hash written true line s f e =
    let is : s ≡ codes "#include" ++ drop 8 s = begins_split (codes "#include") s e in
    subst (λ x. item_of F9 line (option_map (include_item x) (include_behind x)) ≡ item_of (bad_byte true x) line (hash_item written true x)) (sym is) refl

pub take_then : (k : ℕ) (s : Text) (x : ℕ) (r : Text) → drop k s ≡ x ∷ r → take (suc k) s ≡ take k s ++ x ∷ []
take_then zero [] x r e = absurd (cc)
take_then zero (b ∷ s) x r e = let same : b ≡ x = cc in ap (λ y. y ∷ []) same
take_then (suc k) [] x r e = absurd (cc)
take_then (suc k) (b ∷ s) x r e = ap (λ (w : Text). b ∷ w) (take_then k s x r e)

abbrev directive_choice : Bool → ReadItem → Option ReadItem
directive_choice x it = elim x [ true ↦ Some it | false ↦ None ]

-- a `#line` line, from its newline on
pub directive_told : (line : ℕ) (text : Text) (at end n : ℕ) → at ≤ end → end < length text → is_line_directive (line_of (drop at text)) ≡ true → n ≡ directive_number (line_of (drop at text))
    → drop end text ≡ behind_all is_not_newline (drop at text)
    → Ok (item_view text at (record { tok = None; number = Some n; end = end + 1 })) ≡ item_of F9 line (read_directive (drop at text))
directive_told line text at end n h k is same e =
    let s = drop at text in
    let b = get_or text end 0 in
    let rest = drop (end + 1) text in
    let behind : behind_all is_not_newline s ≡ b ∷ rest = sym e ∙ at_place text end k in
    let front_is : line_of s ≡ take (end - at) s = ap (front s) (sym e) ∙ front_slice text at end h (omega arith) in
    let j : at + (end - at) ≡ end = omega arith in
    let here : drop (end - at) s ≡ b ∷ rest = later (end - at) at text ∙ ap (λ m. drop m text) j ∙ at_place text end k in
    let m : end + 1 - at ≡ suc (end - at) = omega arith in
    let bytes : take (end + 1 - at) s ≡ line_of s ++ b ∷ [] = ap (λ m. take m s) m ∙ take_then (end - at) s b rest here ∙ ap (λ (w : Text). w ++ b ∷ []) (sym front_is) in
    sym (ap (item_of F9 line) (ap (λ (x : Bool). directive_choice x (directive_item (line_of s) (behind_all is_not_newline s))) is
    ∙ ap (λ (r : Text). Some (directive_item (line_of s) r)) behind
    ∙ (λ i. Some (record { bytes = sym bytes i; tok = None; step = numbered_line (sym same i); rest = rest }))))

-- ---- anything else

pub other_item : (written fresh : Bool) (line : ℕ) (text : Text) (at : ℕ) → at < length text → is_blank (get_or text at 0) ≡ false → (get_or text at 0 ≡ 35 → ⊥)
    → item_of F4 line (option_map lexeme_item (lexeme (drop at text))) ≡ item_of (bad_byte fresh (drop at text)) line (read_item written fresh (drop at text))
other_item written fresh line text at h blank hash =
    subst (λ s. item_of F4 line (option_map lexeme_item (lexeme s)) ≡ item_of (bad_byte fresh s) line (read_item written fresh s)) (sym (at_place text at h)) (same (get_or text at 0) (drop (at + 1) text) blank (ne_eqb _ 35 hash))
  where
    never : (x y : Bool) → y ≡ false → (x && (y && true)) ≡ false
    never true y e = ap (λ (z : Bool). z && true) e
    never false y e = refl

    same : (b : ℕ) (bs : Text) → is_blank b ≡ false → (b == 35) ≡ false → item_of F4 line (option_map lexeme_item (lexeme (b ∷ bs))) ≡ item_of (bad_byte fresh (b ∷ bs)) line (read_item written fresh (b ∷ bs))
    same b bs x y =
        let bad : bad_byte fresh (b ∷ bs) ≡ F4 = ap (λ (z : Bool). if z then F9 else F4) (never fresh (35 == b) (turned false b 35 y)) in
        let read : read_item written fresh (b ∷ bs) ≡ option_map lexeme_item (lexeme (b ∷ bs)) = λ i. elim (x i) [
          | true ↦ Some (record { bytes = b ∷ []; tok = None; step = counted; rest = bs })
          | false ↦ elim (y i) [
            | true ↦ elim fresh [ true ↦ read_hash written (b ∷ bs) | false ↦ None ]
            | false ↦ option_map lexeme_item (lexeme (b ∷ bs))
          ]
        ] in
        λ i. item_of (sym bad i) line (sym read i)
