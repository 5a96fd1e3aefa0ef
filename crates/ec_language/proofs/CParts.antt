-- The parts of C text: `c_parts` are the ones that the definition allows.
use Rattle.std.proofs.Common.{◌≡◌, ℕ, zero, suc, ◌≤◌, Bool, false, List, [], ◌∷◌, ◌++◌, length, Option, Some, None, Result, Err, refl, sym, ap, ◌∙◌, arith, length-append}
use Rattle.ec_base.specs.declared.fault.FaultKind.{FaultKind}
use Rattle.ec_ctypes.specs.trees.Tokens.{TokData}
use Rattle.ec_language.specs.Letters.{Text, is_empty}
use Rattle.ec_language.specs.Lexemes.{is_fresh_after}
use Rattle.ec_language.specs.Tokens.{Part, Step, Item, blank, match, include, directive, last_directive, NoItem, line_behind, part_at, bad_byte, CParts, end, item, bad}
use Rattle.ec_language.specs.ReadTokens.{ReadItem, read_item, ReadParts, with_parts, one_part, c_parts_within}
use Rattle.ec_language.proofs.Walks.{shorter}
use Rattle.ec_language.proofs.Items.{item_sound, item_complete, item_none}

-- ---- nothing stands in no text

pub item_some : (written fresh : Bool) (u rest : Text) (tok : Option (Result TokData FaultKind)) (step : Step) → Item written fresh u rest tok step → is_empty u ≡ false
item_some written fresh [] rest tok step (blank f t r l e) = absurd (omega arith)
item_some written fresh [] rest tok step (match f t r class v x e) = absurd (let h = x.is in cc)
item_some written fresh [] rest tok step (include f t r e line) = absurd (let h = line.begin in cc)
item_some written fresh [] rest tok step (directive f t line r e w whole d) = absurd (omega (arith, ap length whole, length-append line (10 ∷ [])))
item_some written fresh [] rest tok step (last_directive f t r e w ends d) = absurd (cc)
item_some written fresh (b ∷ u) rest tok step it = refl

-- ---- the parts that are there are found

parts_item : (n : ℕ) (written : Bool) (line : ℕ) (fresh : Bool) (u rest : Text) (tok : Option (Result TokData FaultKind)) (step : Step) (others : List Part) (last : ℕ)
    → Item written fresh u rest tok step
    → c_parts_within n written (line_behind line u step) (is_fresh_after fresh u) rest ≡ record { parts = others; last = last }
    → c_parts_within (suc n) written line fresh (u ++ rest) ≡ record { parts = part_at line tok ++ others; last = last }
parts_item n written line fresh [] rest tok step others last it ih = absurd (let h = item_some written fresh [] rest tok step it in cc)
parts_item n written line fresh (b ∷ u) rest tok step others last it ih =
    (λ i. elim (item_complete written fresh (b ∷ u) rest tok step it i) [
      | Some it ↦ with_parts (part_at line it.tok) (c_parts_within n written (line_behind line it.bytes it.step) (is_fresh_after fresh it.bytes) it.rest)
      | None ↦ one_part line (Err (bad_byte fresh (b ∷ u ++ rest))) line
    ])
    ∙ ap (with_parts (part_at line tok)) ih

pub parts_bad : (n : ℕ) (written : Bool) (line : ℕ) (fresh : Bool) (text : Text) → is_empty text ≡ false → NoItem written fresh text
    → c_parts_within (suc n) written line fresh text ≡ one_part line (Err (bad_byte fresh text)) line
parts_bad n written line fresh [] e none = absurd (cc)
parts_bad n written line fresh (b ∷ bs) e none = step (read_item written fresh (b ∷ bs)) refl
  where
    step : (found : Option ReadItem) → read_item written fresh (b ∷ bs) ≡ found
        → elim found [
          | Some it ↦ with_parts (part_at line it.tok) (c_parts_within n written (line_behind line it.bytes it.step) (is_fresh_after fresh it.bytes) it.rest)
          | None ↦ one_part line (Err (bad_byte fresh (b ∷ bs))) line
        ] ≡ one_part line (Err (bad_byte fresh (b ∷ bs))) line
    step None h = refl
    step (Some it) h = absurd (let s = item_sound written fresh (b ∷ bs) it h in none it.bytes it.rest it.tok it.step s.whole s.is)

pub parts_complete : (n : ℕ) (written : Bool) (line : ℕ) (fresh : Bool) (text : Text) (parts : List Part) (last : ℕ) → CParts written line fresh text parts last → length text ≤ n
    → c_parts_within n written line fresh text ≡ record { parts = parts; last = last }
parts_complete zero written line fresh text parts last (end l f) h = refl
parts_complete (suc n) written line fresh text parts last (end l f) h = refl
parts_complete zero written line fresh text parts last (item l f t u rest tok step p others k whole it next e) h =
    absurd (let less = shorter text u rest whole (item_some written fresh u rest tok step it) in omega arith)
parts_complete (suc n) written line fresh text parts last (item l f t u rest tok step p others k whole it next e) h =
    let less = shorter text u rest whole (item_some written fresh u rest tok step it) in
    ap (c_parts_within (suc n) written line fresh) whole
    ∙ parts_item n written line fresh u rest tok step others last it (parts_complete n written (line_behind line u step) (is_fresh_after fresh u) rest others last next (omega arith))
    ∙ (λ i. record { parts = sym e i; last = last })
parts_complete zero written line fresh [] parts last (bad l f t p some none e) h = absurd (cc)
parts_complete zero written line fresh (b ∷ bs) parts last (bad l f t p some none e) h = absurd (omega arith)
parts_complete (suc n) written line fresh text parts last (bad l f t p some none e) h =
    parts_bad n written line fresh text some none ∙ (λ i. record { parts = sym e i; last = line })

-- ---- what is found is there

abbrev parts_after : ℕ → Bool → ℕ → Bool → Text → Option ReadItem → ReadParts
parts_after n written line fresh text found = elim found [
  | Some it ↦ with_parts (part_at line it.tok) (c_parts_within n written (line_behind line it.bytes it.step) (is_fresh_after fresh it.bytes) it.rest)
  | None ↦ one_part line (Err (bad_byte fresh text)) line
]

pub parts_sound : (n : ℕ) (written : Bool) (line : ℕ) (fresh : Bool) (text : Text) → length text ≤ n
    → CParts written line fresh text (c_parts_within n written line fresh text).parts (c_parts_within n written line fresh text).last
parts_sound zero written line fresh [] h = end line fresh
parts_sound zero written line fresh (b ∷ bs) h = absurd (omega arith)
parts_sound (suc n) written line fresh [] h = end line fresh
parts_sound (suc n) written line fresh (b ∷ bs) h = step (read_item written fresh (b ∷ bs)) refl (parts_sound n written)
  where
    step : (found : Option ReadItem) → read_item written fresh (b ∷ bs) ≡ found
        → ((line : ℕ) (fresh : Bool) (text : Text) → length text ≤ n → CParts written line fresh text (c_parts_within n written line fresh text).parts (c_parts_within n written line fresh text).last)
        → CParts written line fresh (b ∷ bs) (parts_after n written line fresh (b ∷ bs) found).parts (parts_after n written line fresh (b ∷ bs) found).last
    step None e ih = bad line fresh (b ∷ bs) ((one_part line (Err (bad_byte fresh (b ∷ bs))) line).parts) refl (item_none written fresh (b ∷ bs) e) refl
    step (Some it) e ih =
        let s = item_sound written fresh (b ∷ bs) it e in
        let less = shorter (b ∷ bs) it.bytes it.rest s.whole (item_some written fresh it.bytes it.rest it.tok it.step s.is) in
        item line fresh (b ∷ bs) it.bytes it.rest it.tok it.step
        (part_at line it.tok ++ (c_parts_within n written (line_behind line it.bytes it.step) (is_fresh_after fresh it.bytes) it.rest).parts)
        (c_parts_within n written (line_behind line it.bytes it.step) (is_fresh_after fresh it.bytes) it.rest).parts
        (c_parts_within n written (line_behind line it.bytes it.step) (is_fresh_after fresh it.bytes) it.rest).last
        s.whole s.is (ih (line_behind line it.bytes it.step) (is_fresh_after fresh it.bytes) it.rest (omega arith)) refl
