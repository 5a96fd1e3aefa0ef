-- What stands at the beginning of C text: `read_item` finds it, and there is nothing else.
use Rattle.std.proofs.Common.{◌≡◌, ℕ, suc, Bool, true, false, not, ◌&&◌, ◌||◌, [], ◌∷◌, ◌++◌, length, drop, Option, Some, None, Result, Ok, refl, sym, ap, ◌∙◌, subst, arith, append_assoc, eqb-true}
use Rattle.std.specs.Prelude.{codes, ◌==◌, nat_le, option_map, if◌then◌else◌}
use Rattle.std.specs.List.{concat}
use Rattle.std.proofs.lemmas.Bool.Decides.{nat_tests}
use Rattle.ec_base.specs.declared.fault.FaultKind.{FaultKind}
use Rattle.ec_ctypes.specs.trees.Tokens.{TokData, include_token}
use Rattle.ec_language.specs.Letters.{Text, newline, is_blank, is_digit, is_word_start, is_quote, is_not_newline, is_empty, begins, begins_with, each}
use Rattle.ec_language.specs.Lexemes.{Class, comment, class_of, Longest, IncludeLine, is_line_number, is_line_directive, directive_number}
use Rattle.ec_language.specs.Tokens.{token_of, Step, counted, numbered_line, Item, blank, match, include, directive, last_directive, NoItem}
use Rattle.ec_language.specs.ReadPieces.{behind_all, front}
use Rattle.ec_language.specs.ReadTokens.{lexeme, ReadItem, include_end, include_item, directive_item, read_directive, read_hash, lexeme_item, read_item}
use Rattle.ec_language.proofs.Ends.{both}
use Rattle.ec_language.proofs.Classes.{AllSplit, all_sound, all_complete}
use Rattle.ec_language.proofs.Marks.{is_mark_byte, no_mark_at, no_comment_at, mark_or_comment}
use Rattle.ec_language.proofs.LongestMatch.{begins_split, begins_more, lexeme_sound, lexeme_complete}
use Rattle.ec_language.proofs.CWalks.{front_is}
use Rattle.ec_language.proofs.Includes.{IncludeTail, include_sound, include_complete, include_begins}

-- ---- what is found

-- this stands at the beginning of the text
pub record Stands (written fresh : Bool) (text : Text) (i : ReadItem) : Type 0 where
  pub whole : text ≡ i.bytes ++ i.rest
  pub is : Item written fresh i.bytes i.rest i.tok i.step

found_include : (written : Bool) (text x : Text) → text ≡ codes "#include" ++ x → (end : Option Text) → include_end (suc (length text)) text ≡ end
    → (i : ReadItem) → option_map (include_item text) end ≡ Some i → Stands written true text i
found_include written text x e None g i h = absurd (cc)
found_include written text x e (Some rest) g i h =
    let tail : IncludeTail text rest = include_sound (suc (length text)) text rest g in
    let unit : front text rest ≡ concat tail.units = ap (λ t. front t rest) tail.whole ∙ front_is (concat tail.units) rest in
    let same : include_item text rest ≡ i = cc in
    subst (Stands written true text) same (record {
      whole = tail.whole ∙ ap (λ u. u ++ rest) (sym unit);
      is = include true (front text rest) rest refl (record {
        units = tail.units;
        whole = unit;
        free = tail.free;
        begin = subst (λ u. begins_with (codes "#include") u ≡ true) (sym unit) (starts tail e g);
        inside = tail.inside;
        none = tail.none;
        ends = tail.ends;
      });
    })
  where
    starts : (tail : IncludeTail text rest) → text ≡ codes "#include" ++ x → include_end (suc (length text)) text ≡ Some rest → begins_with (codes "#include") (concat tail.units) ≡ true
    starts tail p q = subst (λ t. (more : IncludeTail t rest) → include_end (suc (length t)) t ≡ Some rest → begins_with (codes "#include") (concat more.units) ≡ true)
        (sym p) (λ more r. include_begins (length (codes "include" ++ x)) x rest more r) tail q

found_line : (text line rest : Text) (i : ReadItem) → text ≡ line ++ rest → begins is_not_newline rest ≡ false → is_line_directive line ≡ true → directive_item line rest ≡ i
    → Stands true true text i
found_line text line [] i e n d same = subst (Stands true true text) same (record { whole = e; is = last_directive true line [] refl refl refl d })
found_line text line (c ∷ cs) i e n d same = subst (Stands true true text) same (record {
  whole = e ∙ sym (append_assoc line (c ∷ []) cs);
  is = directive true (line ++ c ∷ []) line cs refl refl (ap (λ b. line ++ b ∷ []) (ends n)) d;
})
  where
    ends : is_not_newline c ≡ false → c ≡ newline
    ends h = eqb-true c newline (turn (c == newline) h)
      where
        turn : (t : Bool) → not t ≡ false → t ≡ true
        turn true k = refl
        turn false k = absurd (cc)

found_directive : (text : Text) (i : ReadItem) → read_directive text ≡ Some i → Stands true true text i
found_directive text i h =
    let s = all_sound is_not_newline text (behind_all is_not_newline text) refl in
    let line : front text (behind_all is_not_newline text) ≡ s.unit = ap (λ t. front t (behind_all is_not_newline text)) s.whole ∙ front_is s.unit (behind_all is_not_newline text) in
    step s line (is_line_directive (front text (behind_all is_not_newline text))) refl h
  where
    step : (s : AllSplit is_not_newline text (behind_all is_not_newline text)) → front text (behind_all is_not_newline text) ≡ s.unit
        → (t : Bool) → is_line_directive (front text (behind_all is_not_newline text)) ≡ t
        → elim t [ true ↦ Some (directive_item (front text (behind_all is_not_newline text)) (behind_all is_not_newline text)) | false ↦ None ] ≡ Some i → Stands true true text i
    step s line true d k =
        let same : directive_item (front text (behind_all is_not_newline text)) (behind_all is_not_newline text) ≡ i = cc in
        found_line text (front text (behind_all is_not_newline text)) (behind_all is_not_newline text) i
        (s.whole ∙ ap (λ u. u ++ behind_all is_not_newline text) (sym line)) s.ends d same
    step s line false d k = absurd (cc)

found_hash : (written : Bool) (text : Text) (i : ReadItem) → read_hash written text ≡ Some i → Stands written true text i
found_hash written text i h = step written (begins_with (codes "#include") text) refl h
  where
    step : (w x : Bool) → begins_with (codes "#include") text ≡ x
        → elim x [ true ↦ option_map (include_item text) (include_end (suc (length text)) text) | false ↦ elim w [ true ↦ read_directive text | false ↦ None ] ] ≡ Some i → Stands w true text i
    step w true e k = found_include w text (drop 8 text) (begins_split (codes "#include") text e) (include_end (suc (length text)) text) refl i k
    step true false e k = found_directive text i k
    step false false e k = absurd (cc)

found_lexeme : (written fresh : Bool) (text : Text) (found : Option (Class × Text × Text)) → lexeme text ≡ found → (i : ReadItem) → option_map lexeme_item found ≡ Some i
    → Stands written fresh text i
found_lexeme written fresh text None e i h = absurd (cc)
found_lexeme written fresh text (Some p) e i h =
    let k = lexeme_sound text p.1 p.2 p.0 e in
    let same : lexeme_item p ≡ i = cc in
    subst (Stands written fresh text) same (record { whole = k.0; is = match fresh p.1 p.2 p.0 (token_of p.0 p.1) k.1 refl })

pub item_sound : (written fresh : Bool) (text : Text) (i : ReadItem) → read_item written fresh text ≡ Some i → Stands written fresh text i
item_sound written fresh [] i h = absurd (cc)
item_sound written fresh (b ∷ bs) i h = step (is_blank b) (b == 35) fresh refl refl h
  where
    step : (x y f : Bool) → is_blank b ≡ x → (b == 35) ≡ y
        → elim x [
          | true ↦ Some (record { bytes = b ∷ []; tok = None; step = counted; rest = bs })
          | false ↦
              elim y [ true ↦ elim f [ true ↦ read_hash written (b ∷ bs) | false ↦ None ] | false ↦ option_map lexeme_item (lexeme (b ∷ bs)) ]
        ] ≡ Some i
        → Stands written f (b ∷ bs) i
    step true y f e g k =
        let one : ReadItem = record { bytes = b ∷ []; tok = None; step = counted; rest = bs } in
        let same : one ≡ i = cc in
        subst (Stands written f (b ∷ bs)) same (record { whole = refl; is = blank f (b ∷ []) bs refl e })
    step false true true e g k = found_hash written (b ∷ bs) i k
    step false true false e g k = absurd (cc)
    step false false f e g k = found_lexeme written f (b ∷ bs) (lexeme (b ∷ bs)) refl i k

-- ---- what is there is found

-- nothing of a class begins with a byte that begins no word, number, quote or mark
no_class : (b : ℕ) (w : Text) → is_word_start b ≡ false → is_digit b ≡ false → is_quote b ≡ false → is_mark_byte b ≡ false → class_of (b ∷ w) ≡ None
no_class b w e d q m = mark_or_comment b w e d q ∙ (λ i. if no_comment_at b w m i then Some comment else no_mark_at b w m i)

no_blank_class : (b : ℕ) (w : Text) → is_blank b ≡ true → class_of (b ∷ w) ≡ None
no_blank_class b w h =
    let e : is_word_start b ≡ false = grind (arith, nat_tests) in
    let d : is_digit b ≡ false = grind (arith, nat_tests) in
    let q : is_quote b ≡ false = grind (arith, nat_tests) in
    no_class b w e d q (λ i. not (e i || d i || q i || h i || b == 35))

no_hash_class : (b : ℕ) (w : Text) → (b == 35) ≡ true → class_of (b ∷ w) ≡ None
no_hash_class b w h = subst (λ x. class_of (x ∷ w) ≡ None) (sym (eqb-true b 35 h)) (no_class 35 w refl refl refl refl)

-- what a text with a class begins with
begins_class : (b : ℕ) (w : Text) (c : Class) → class_of (b ∷ w) ≡ Some c → (is_blank b ≡ false) × ((b == 35) ≡ false)
begins_class b w c e = (step_blank (is_blank b) refl, step_hash (b == 35) refl)
  where
    step_blank : (t : Bool) → is_blank b ≡ t → is_blank b ≡ false
    step_blank false h = h
    step_blank true h = absurd (let k = no_blank_class b w h in cc)

    step_hash : (t : Bool) → (b == 35) ≡ t → (b == 35) ≡ false
    step_hash false h = h
    step_hash true h = absurd (let k = no_hash_class b w h in cc)

complete_blank : (written fresh : Bool) (u rest : Text) → length u ≡ 1 → begins is_blank u ≡ true
    → read_item written fresh (u ++ rest) ≡ Some (record { bytes = u; tok = None; step = counted; rest = rest })
complete_blank written fresh [] rest l e = absurd (omega arith)
complete_blank written fresh (b ∷ c ∷ w) rest l e = absurd (omega arith)
complete_blank written fresh (b ∷ []) rest l e = λ i. elim (e i) [
  | true ↦ Some (record { bytes = b ∷ []; tok = None; step = counted; rest = rest })
  | false ↦ elim (b == 35) [ true ↦ elim fresh [ true ↦ read_hash written (b ∷ rest) | false ↦ None ] | false ↦ option_map lexeme_item (lexeme (b ∷ rest)) ]
]

complete_match : (written fresh : Bool) (u rest : Text) (class : Class) → Longest u rest class
    → read_item written fresh (u ++ rest) ≡ Some (record { bytes = u; tok = token_of class u; step = counted; rest = rest })
complete_match written fresh [] rest class x = absurd (let h = x.is in cc)
complete_match written fresh (b ∷ w) rest class x =
    let k = begins_class b w class x.is in
    (λ i. elim (k.0 i) [
      | true ↦ Some (record { bytes = b ∷ []; tok = None; step = counted; rest = w ++ rest })
      | false ↦ elim (k.1 i) [ true ↦ elim fresh [ true ↦ read_hash written (b ∷ w ++ rest) | false ↦ None ] | false ↦ option_map lexeme_item (lexeme (b ∷ w ++ rest)) ]
    ])
    ∙ ap (option_map lexeme_item) (lexeme_complete (b ∷ w) rest class x)

complete_include : (written : Bool) (u rest : Text) → IncludeLine u rest
    → read_item written true (u ++ rest) ≡ Some (record { bytes = u; tok = Some (Ok (include_token u)); step = counted; rest = rest })
complete_include written u rest line =
    let whole = begins_split (codes "#include") u line.begin in
    let end : include_end (suc (length (u ++ rest))) (u ++ rest) ≡ Some rest =
    ap (λ v. include_end (suc (length (v ++ rest))) (v ++ rest)) line.whole
    ∙ include_complete (suc (length (concat line.units ++ rest))) line.units rest line.free line.inside line.none line.ends (omega arith) in
    subst (λ v. read_item written true (v ++ rest) ≡ read_hash written (v ++ rest)) (sym whole) refl
    ∙ (λ i. elim (begins_more (codes "#include") u rest line.begin i) [
      | true ↦ option_map (include_item (u ++ rest)) (end i)
      | false ↦ elim written [ true ↦ read_directive (u ++ rest) | false ↦ None ]
    ])
    ∙ (λ i. Some (record { bytes = front_is u rest i; tok = Some (Ok (include_token (front_is u rest i))); step = counted; rest = rest }))

-- a line with a number has no newline
digits_on_line : (digits : Text) → each is_digit digits ≡ true → each is_not_newline digits ≡ true
digits_on_line [] e = refl
digits_on_line (b ∷ bs) e =
    let k = both (is_digit b) (each is_digit bs) e in
    let d = k.0 in
    let h : is_not_newline b ≡ true = grind (arith, nat_tests) in
    let r = digits_on_line bs k.1 in
    λ i. h i && r i

directive_split : (line : Text) → is_line_directive line ≡ true → (line ≡ codes "#line " ++ drop 6 line) × (each is_not_newline line ≡ true)
directive_split line d =
    let k = both (begins_with (codes "#line ") line) (is_line_number (drop 6 line)) d in
    let whole = begins_split (codes "#line ") line k.0 in
    let number = both (not (is_empty (drop 6 line)) && nat_le (length (drop 6 line)) 9 && each is_digit (drop 6 line)) (not (begins (λ b. b == 48) (drop 6 line))) k.1 in
    let digits = both (not (is_empty (drop 6 line)) && nat_le (length (drop 6 line)) 9) (each is_digit (drop 6 line)) number.0 in
    (whole, ap (each is_not_newline) whole ∙ digits_on_line (drop 6 line) digits.1)

complete_line : (line rest : Text) → is_line_directive line ≡ true → begins is_not_newline rest ≡ false → read_item true true (line ++ rest) ≡ Some (directive_item line rest)
complete_line line rest d n =
    let s = directive_split line d in
    let behind = all_complete is_not_newline line rest s.1 n in
    let first : front (line ++ rest) (behind_all is_not_newline (line ++ rest)) ≡ line = ap (front (line ++ rest)) behind ∙ front_is line rest in
    subst (λ v. read_item true true (v ++ rest) ≡ read_directive (v ++ rest)) (sym s.0) refl
    ∙ (λ i. elim (is_line_directive (first i)) [ true ↦ Some (directive_item (first i) (behind i)) | false ↦ None ])
    ∙ (λ i. elim (d i) [ true ↦ Some (directive_item line rest) | false ↦ None ])

pub item_complete : (written fresh : Bool) (u rest : Text) (tok : Option (Result TokData FaultKind)) (step : Step) → Item written fresh u rest tok step
    → read_item written fresh (u ++ rest) ≡ Some (record { bytes = u; tok = tok; step = step; rest = rest })
item_complete written fresh u rest tok step (blank f t r l e) = complete_blank written fresh u rest l e
item_complete written fresh u rest tok step (match f t r class v x e) = complete_match written fresh u rest class x ∙ (λ i. Some (record { bytes = u; tok = sym e i; step = counted; rest = rest }))
item_complete written fresh u rest tok step (include f t r e line) = subst (λ x. read_item written x (u ++ rest) ≡ Some (record { bytes = u; tok = Some (Ok (include_token u)); step = counted; rest = rest })) (sym e) (complete_include written u rest line)
item_complete written fresh u rest tok step (directive f t line r e w whole d) =
    (λ i. read_item (w i) (e i) (whole i ++ rest))
    ∙ ap (read_item true true) (append_assoc line (newline ∷ []) rest)
    ∙ complete_line line (newline ∷ rest) d refl
    ∙ (λ i. Some (record { bytes = sym whole i; tok = None; step = numbered_line (directive_number line); rest = rest }))
item_complete written fresh u rest tok step (last_directive f t r e w ends d) =
    (λ i. read_item (w i) (e i) (u ++ ends i))
    ∙ complete_line u [] d refl
    ∙ (λ i. Some (record { bytes = u; tok = None; step = counted; rest = sym ends i }))

pub item_none : (written fresh : Bool) (text : Text) → read_item written fresh text ≡ None → NoItem written fresh text
item_none written fresh text e u rest tok step whole item = let k = item_complete written fresh u rest tok step item in let h = ap (read_item written fresh) whole in cc

-- two things that stand at one place are one
pub same_item : (written fresh : Bool) (u rest v behind : Text) (tok other : Option (Result TokData FaultKind)) (step next : Step) → u ++ rest ≡ v ++ behind
    → Item written fresh u rest tok step → Item written fresh v behind other next → (u ≡ v) × (rest ≡ behind) × (tok ≡ other) × (step ≡ next)
same_item written fresh u rest v behind tok other step next e a b =
    let one : ReadItem = record { bytes = u; tok = tok; step = step; rest = rest } in
    let two : ReadItem = record { bytes = v; tok = other; step = next; rest = behind } in
    let h : Some one ≡ Some two = sym (item_complete written fresh u rest tok step a) ∙ ap (read_item written fresh) e ∙ item_complete written fresh v behind other next b in
    let same : one ≡ two = cc in
    (ap (λ i. i.bytes) same, ap (λ i. i.rest) same, ap (λ i. i.tok) same, ap (λ i. i.step) same)
