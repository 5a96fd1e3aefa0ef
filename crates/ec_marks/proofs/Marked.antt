-- One step is what the definition does with its bytes.
use Rattle.std.proofs.Common.{◌≡◌, ℕ, zero, suc, Bool, true, false, [], ◌∷◌, ◌++◌, ◌≤◌, ◌+◌, length, drop, get_or, add-one, length-drop, codes, decimal, refl, sym, ap, ◌∙◌, subst, append_assoc, arith}
use Rattle.std.specs.Prelude.{◌==◌, ◌&&◌, ◌||◌}
use Rattle.ec_call_defs.specs.Outcomes.{Text}
use Rattle.ec_call_defs.specs.Marks.{Where, between, behind_e, in_word, in_number, quoted, escaped, dashed, commented, marked}
use Rattle.ec_marks.specs.Steps.{Taken, mark, one, two, behind, opens_comment, closes_comment, opens_dashed, outside, after_first, begins_word, begins_number, goes_on_word, goes_on_number, step, depth}

-- what becomes of a text whose first byte takes this step
abbrev pub Takes : Taken → Text → ℕ → ℕ → Text → Type 0
Takes mark whole n b bs = whole ≡ codes "$" ++ decimal n ++ marked between (suc n) bs
Takes (one w) whole n b bs = whole ≡ b ∷ marked w n bs
Takes (two c w) whole n b bs = whole ≡ b ∷ c ∷ marked w n (drop 1 bs)

nothing : (w : Where) (n : ℕ) → marked w n [] ≡ []
nothing between n = refl
nothing behind_e n = refl
nothing in_word n = refl
nothing in_number n = refl
nothing (quoted q) n = refl
nothing escaped n = refl
nothing dashed n = refl
nothing (commented deep) n = refl

nil_right : (xs : Text) → xs ++ [] ≡ xs
nil_right [] = refl
nil_right (x ∷ xs) = λ j. x ∷ nil_right xs j

in_quote : (q n b : ℕ) (bs : Text) (ends : Bool)
    → Takes (elim ends [ true ↦ one between | false ↦ one (quoted q) ]) (b ∷ elim ends [ true ↦ marked between n bs | false ↦ marked (quoted q) n bs ]) n b bs
in_quote q n b bs true = refl
in_quote q n b bs false = refl

in_dashed : (n b : ℕ) (bs : Text) (ends : Bool)
    → Takes (elim ends [ true ↦ one between | false ↦ one dashed ]) (b ∷ elim ends [ true ↦ marked between n bs | false ↦ marked dashed n bs ]) n b bs
in_dashed n b bs true = refl
in_dashed n b bs false = refl

in_escaped : (n b c : ℕ) (bs : Text) (both ends : Bool)
    → Takes (elim both [ true ↦ two c escaped | false ↦ elim ends [ true ↦ one between | false ↦ one escaped ] ])
    (elim both [ true ↦ b ∷ c ∷ marked escaped n bs | false ↦ b ∷ elim ends [ true ↦ marked between n (c ∷ bs) | false ↦ marked escaped n (c ∷ bs) ] ]) n b (c ∷ bs)
in_escaped n b c bs true ends = refl
in_escaped n b c bs false true = refl
in_escaped n b c bs false false = refl

in_comment : (deep n b c : ℕ) (bs : Text) (opens closes : Bool)
    → Takes (elim opens [ true ↦ two c (commented (suc deep)) | false ↦ elim closes [ true ↦ two c (outside deep) | false ↦ one (commented deep) ] ])
    (elim opens [
      | true ↦ b ∷ c ∷ marked (commented (suc deep)) n bs
      | false ↦ elim closes [
        | true ↦ b ∷ c ∷ elim deep [ zero ↦ marked between n bs | suc outer ↦ marked (commented outer) n bs ]
        | false ↦ b ∷ marked (commented deep) n (c ∷ bs)
      ]
    ]) n b (c ∷ bs)
in_comment deep n b c bs true closes = refl
in_comment zero n b c bs false true = refl
in_comment (suc outer) n b c bs false true = refl
in_comment deep n b c bs false false = refl

in_plain : (w : Where) (n b c : ℕ) (bs : Text) (marks opens dashes : Bool)
    → Takes (elim marks [ true ↦ mark | false ↦ elim opens [ true ↦ two c (commented 0) | false ↦ elim dashes [ true ↦ two c dashed | false ↦ one w ] ] ])
    (elim marks [
      | true ↦ codes "$" ++ decimal n ++ marked between (suc n) (c ∷ bs)
      | false ↦ elim opens [
        | true ↦ b ∷ c ∷ marked (commented 0) n bs
        | false ↦ elim dashes [
          | true ↦ b ∷ c ∷ marked dashed n bs
          | false ↦ b ∷ marked w n (c ∷ bs)
        ]
      ]
    ]) n b (c ∷ bs)
in_plain w n b c bs true opens dashes = refl
in_plain w n b c bs false true dashes = refl
in_plain w n b c bs false false true = refl
in_plain w n b c bs false false false = refl

-- the last byte
plain_last : (n b : ℕ) (marks : Bool) → Takes (elim marks [ true ↦ mark | false ↦ one between ]) (elim marks [ true ↦ codes "$" ++ decimal n | false ↦ b ∷ [] ]) n b []
plain_last n b true = λ j. codes "$" ++ sym (nil_right (decimal n)) j
plain_last n b false = refl

pub takes : (w : Where) (n b : ℕ) (bs : Text) → Takes (step w b bs) (marked w n (b ∷ bs)) n b bs
takes (quoted q) n b bs = in_quote q n b bs (b == q)
takes escaped n b [] = refl
takes escaped n b (c ∷ bs) = in_escaped n b c bs (b == 92 || (b == 39 && c == 39)) (b == 39)
takes dashed n b bs = in_dashed n b bs (b == 10)
takes (commented deep) n b [] = refl
takes (commented deep) n b (c ∷ bs) = in_comment deep n b c bs (opens_comment b c) (closes_comment b c)
takes between n b [] = plain_last n b (b == 63)
takes behind_e n b [] = plain_last n b (b == 63)
takes in_word n b [] = plain_last n b (b == 63)
takes in_number n b [] = plain_last n b (b == 63)
takes between n b (c ∷ bs) = in_plain (behind between b c) n b c bs (b == 63) (opens_comment b c) (opens_dashed b c)
takes behind_e n b (c ∷ bs) = in_plain (behind behind_e b c) n b c bs (b == 63) (opens_comment b c) (opens_dashed b c)
takes in_word n b (c ∷ bs) = in_plain (behind in_word b c) n b c bs (b == 63) (opens_comment b c) (opens_dashed b c)
takes in_number n b (c ∷ bs) = in_plain (behind in_number b c) n b c bs (b == 63) (opens_comment b c) (opens_dashed b c)

-- ---- how deep the byte behind lies

abbrev pub Fits : Taken → Where → Text → Type 0
Fits mark w bs = Unit {0}
Fits (one v) w bs = depth v ≤ depth w
Fits (two c v) w bs = (depth v ≤ depth w + 1) × (1 ≤ length bs)

flat_first : (b : ℕ) (e word number quote : Bool)
    → depth (elim e [ true ↦ behind_e | false ↦ elim word [ true ↦ in_word | false ↦ elim number [ true ↦ in_number | false ↦ elim quote [ true ↦ quoted b | false ↦ between ] ] ] ]) ≡ 0
flat_first b true word number quote = refl
flat_first b false true number quote = refl
flat_first b false false true quote = refl
flat_first b false false false true = refl
flat_first b false false false false = refl

flat : (b c : ℕ) → depth (after_first b c) ≡ 0
flat b c = flat_first b (b == 69 || b == 101) (begins_word b) (begins_number b c) (b == 39 || b == 34)

flat_or : (w v : Where) (t : Bool) → depth w ≡ 0 → depth v ≡ 0 → depth (elim t [ true ↦ w | false ↦ v ]) ≡ 0
flat_or w v true p q = p
flat_or w v false p q = q

fits_plain : (w v : Where) (b c : ℕ) (bs : Text) (marks opens dashes : Bool) → depth v ≡ 0
    → Fits (elim marks [ true ↦ mark | false ↦ elim opens [ true ↦ two c (commented 0) | false ↦ elim dashes [ true ↦ two c dashed | false ↦ one v ] ] ]) w (c ∷ bs)
fits_plain w v b c bs true opens dashes e = tt
fits_plain w v b c bs false true dashes e = (omega arith, omega arith)
fits_plain w v b c bs false false true e = (omega arith, omega arith)
fits_plain w v b c bs false false false e = omega arith

fits_last : (w : Where) (marks : Bool) → Fits (elim marks [ true ↦ mark | false ↦ one between ]) w []
fits_last w true = tt
fits_last w false = omega arith

fits_one : (w u v : Where) (bs : Text) (t : Bool) → depth u ≤ depth w → depth v ≤ depth w → Fits (elim t [ true ↦ one u | false ↦ one v ]) w bs
fits_one w u v bs true p q = p
fits_one w u v bs false p q = q

fits_escaped : (c : ℕ) (bs : Text) (both ends : Bool) → Fits (elim both [ true ↦ two c escaped | false ↦ elim ends [ true ↦ one between | false ↦ one escaped ] ]) escaped (c ∷ bs)
fits_escaped c bs true ends = (omega arith, omega arith)
fits_escaped c bs false true = omega arith
fits_escaped c bs false false = omega arith

fits_comment : (deep c : ℕ) (bs : Text) (opens closes : Bool)
    → Fits (elim opens [ true ↦ two c (commented (suc deep)) | false ↦ elim closes [ true ↦ two c (outside deep) | false ↦ one (commented deep) ] ]) (commented deep) (c ∷ bs)
fits_comment deep c bs true closes = (omega arith, omega arith)
fits_comment zero c bs false true = (omega arith, omega arith)
fits_comment (suc outer) c bs false true = (omega arith, omega arith)
fits_comment deep c bs false false = omega arith

fits : (w : Where) (b : ℕ) (bs : Text) → Fits (step w b bs) w bs
fits (quoted q) b bs = fits_one (quoted q) between (quoted q) bs (b == q) (omega arith) (omega arith)
fits escaped b [] = omega arith
fits escaped b (c ∷ bs) = fits_escaped c bs (b == 92 || (b == 39 && c == 39)) (b == 39)
fits dashed b bs = fits_one dashed between dashed bs (b == 10) (omega arith) (omega arith)
fits (commented deep) b [] = omega arith
fits (commented deep) b (c ∷ bs) = fits_comment deep c bs (opens_comment b c) (closes_comment b c)
fits between b [] = fits_last between (b == 63)
fits behind_e b [] = fits_last behind_e (b == 63)
fits in_word b [] = fits_last in_word (b == 63)
fits in_number b [] = fits_last in_number (b == 63)
fits between b (c ∷ bs) = fits_plain between (behind between b c) b c bs (b == 63) (opens_comment b c) (opens_dashed b c) (flat b c)
fits behind_e b (c ∷ bs) = fits_plain behind_e (behind behind_e b c) b c bs (b == 63) (opens_comment b c) (opens_dashed b c)
    (flat_or escaped _ (b == 39) refl (flat_or in_word (after_first b c) (goes_on_word b) refl (flat b c)))
fits in_word b (c ∷ bs) = fits_plain in_word (behind in_word b c) b c bs (b == 63) (opens_comment b c) (opens_dashed b c) (flat_or in_word (after_first b c) (goes_on_word b) refl (flat b c))
fits in_number b (c ∷ bs) = fits_plain in_number (behind in_number b c) b c bs (b == 63) (opens_comment b c) (opens_dashed b c) (flat_or in_number (after_first b c) (goes_on_number b) refl (flat b c))

-- ---- a text of which so much is made, and what is left

abbrev pub GoesOn : Text → Text → Where → ℕ → Text → Type 0
GoesOn whole made w marks rest = whole ≡ made ++ marked w (suc marks) rest

module _ (whole made : Text) (w : Where) (marks : ℕ) where
  abbrev first : Text → ℕ
  first rest = get_or rest 0 0

  split : (rest : Text) → 1 ≤ length rest → rest ≡ first rest ∷ drop 1 rest
  split [] some = grind arith
  split (b ∷ bs) some = refl

  module _ (rest more : Text) (taken : Taken) (goes_on : GoesOn whole made w marks rest) (some : 1 ≤ length rest) (is : more ≡ drop 1 rest) (e : taken ≡ step w (first rest) more) where
    whole_is : whole ≡ made ++ marked w (suc marks) (first rest ∷ more)
    whole_is = goes_on ∙ (λ j. made ++ marked w (suc marks) (split rest some j)) ∙ (λ j. made ++ marked w (suc marks) (first rest ∷ sym is j))

    taken_is : Takes taken (marked w (suc marks) (first rest ∷ more)) (suc marks) (first rest) more
    taken_is = subst (λ x. Takes x (marked w (suc marks) (first rest ∷ more)) (suc marks) (first rest) more) (sym e) (takes w (suc marks) (first rest) more)

    pub taken_fits : Fits taken w more
    taken_fits = subst (λ x. Fits x w more) (sym e) (fits w (first rest) more)

  pub behind_mark : (rest more now : Text) → GoesOn whole made w marks rest → 1 ≤ length rest → more ≡ drop 1 rest → mark ≡ step w (first rest) more
      → now ≡ made ++ (codes "$" ++ decimal (marks + 1)) → GoesOn whole now between (marks + 1) more
  behind_mark rest more now goes_on some is e put =
      whole_is rest more mark goes_on some is e ∙ (λ j. made ++ taken_is rest more mark goes_on some is e j)
      ∙ (λ j. made ++ (codes "$" ++ decimal (sym (add-one marks) j) ++ marked between (suc (sym (add-one marks) j)) more))
      ∙ (λ j. made ++ sym (append_assoc (codes "$") (decimal (marks + 1)) (marked between (suc (marks + 1)) more)) j)
      ∙ sym (append_assoc made (codes "$" ++ decimal (marks + 1)) (marked between (suc (marks + 1)) more))
      ∙ (λ j. sym put j ++ marked between (suc (marks + 1)) more)

  pub behind_one : (v : Where) (rest more now : Text) → GoesOn whole made w marks rest → 1 ≤ length rest → more ≡ drop 1 rest → one v ≡ step w (first rest) more
      → now ≡ made ++ first rest ∷ [] → GoesOn whole now v marks more
  behind_one v rest more now goes_on some is e put =
      whole_is rest more (one v) goes_on some is e ∙ (λ j. made ++ taken_is rest more (one v) goes_on some is e j)
      ∙ sym (append_assoc made (first rest ∷ []) (marked v (suc marks) more))
      ∙ (λ j. sym put j ++ marked v (suc marks) more)

  pub behind_two : (v : Where) (c : ℕ) (rest more left then now : Text) → GoesOn whole made w marks rest → 1 ≤ length rest → more ≡ drop 1 rest → two c v ≡ step w (first rest) more
      → then ≡ made ++ first rest ∷ [] → now ≡ then ++ c ∷ [] → left ≡ drop 1 more → GoesOn whole now v marks left
  behind_two v c rest more left then now goes_on some is e put next behind_both =
      whole_is rest more (two c v) goes_on some is e ∙ (λ j. made ++ taken_is rest more (two c v) goes_on some is e j)
      ∙ sym (append_assoc made (first rest ∷ []) (c ∷ marked v (suc marks) (drop 1 more)))
      ∙ (λ j. sym put j ++ c ∷ marked v (suc marks) (sym behind_both j))
      ∙ sym (append_assoc then (c ∷ []) (marked v (suc marks) left))
      ∙ (λ j. sym next j ++ marked v (suc marks) left)

pub one_less : (rest more : Text) → 1 ≤ length rest → more ≡ drop 1 rest → length more + 1 ≡ length rest
one_less rest more some is = omega (arith, length-drop 1 rest, ap length is)
