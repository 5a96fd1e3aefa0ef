-- The front of a message that there is room for.
use Rattle.std.proofs.Common.{◌≡◌, ◌∙◌, sym, ap, refl, ℕ, zero, suc, ◌+◌, ◌-◌, ◌≤◌, min, List, [], ◌∷◌, ◌++◌, length, take, drop, replicate, arith, length-append, length-take}
use Rattle.std.proofs.lemmas.List.{drop-drop, take_at, drop_at, drop-replicate}
use Rattle.ec_memory_defs.specs.Cells.{written}
use Rattle.ec_transfer_defs.specs.Area.{kept_front, in_sqlerrmc}

-- the front of joined lists
take_joined : (n : ℕ) (xs ys : List ℕ) → take n (xs ++ ys) ≡ take n xs ++ take (n - length (take n xs)) ys
take_joined zero xs ys = refl
take_joined (suc n) [] ys = let same : suc n ≡ suc n - 0 = omega arith in ap (λ k. take k ys) same
take_joined (suc n) (x ∷ xs) ys =
    let same : n - length (take n xs) ≡ suc n - suc (length (take n xs)) = omega arith in
    ap (λ t. x ∷ t) (take_joined n xs ys ∙ ap (λ k. take n xs ++ take k ys) same)

-- no more than there is
take_short : (n : ℕ) (ys : List ℕ) → take (min (length ys) n) ys ≡ take n ys
take_short zero ys = let none : min (length ys) 0 ≡ 0 = omega arith in ap (λ k. take k ys) none
take_short (suc n) [] = let none : min 0 (suc n) ≡ 0 = omega arith in ap (λ k. take k []) none
take_short (suc n) (y ∷ ys) =
    let one : min (suc (length ys)) (suc n) ≡ suc (min (length ys) n) = omega arith in
    ap (λ k. take k (y ∷ ys)) one ∙ ap (λ t. y ∷ t) (take_short n ys)

-- a text, and zero bytes up to 150
abbrev padded : List ℕ → List ℕ
padded text = text ++ replicate (150 - length text) 0

-- what is written right behind a text
padded_more : (text more : List ℕ) → length text + length more ≤ 150 → written (padded text) (length text) more ≡ padded (text ++ more)
padded_more text more fits =
    let zeros : List ℕ = replicate (150 - length text) 0 in
    let left : 150 - length text - length more ≡ 150 - length (text ++ more) = omega (arith, length-append text more) in
    ap (λ t. t ++ more ++ drop (length text + length more) (padded text)) (take_at text zeros (length text) refl)
    ∙ ap (λ t. text ++ more ++ t) (sym (drop-drop (length more) (length text) (padded text)) ∙ ap (drop (length more)) (drop_at text zeros (length text) refl) ∙ drop-replicate (length more) (150 - length text) 0 ∙ ap (λ j. replicate j 0) left)

-- the front of a message and of more behind it
kept_more : (front more : List ℕ) → kept_front (front ++ more) ≡ kept_front front ++ take (149 - length (kept_front front)) more
kept_more front more = take_joined 149 front more

-- as many bytes more as there is room for
pub message_more : (text front more after : List ℕ) (at count : ℕ) → text ≡ in_sqlerrmc front → at ≡ length (kept_front front) → at ≤ 149 → count ≡ min (length more) (149 - at) → after ≡ written text at (take count more) → after ≡ in_sqlerrmc (front ++ more)
message_more text front more after at count old begins room many is =
    let kept = kept_front front in
    let some = take (149 - length kept) more in
    let same : min (length more) (149 - at) ≡ min (length more) (149 - length kept) = ap (λ k. min (length more) (149 - k)) begins in
    let taken : take count more ≡ some = ap (λ k. take k more) (many ∙ same) ∙ take_short (149 - length kept) more in
    is ∙ ap (λ t. written t at (take count more)) old ∙ ap (written (in_sqlerrmc front) at) taken ∙ ap (λ k. written (in_sqlerrmc front) k some) begins
    ∙ padded_more kept some (omega (arith, begins, length-take (149 - length kept) more))
    ∙ ap padded (sym (kept_more front more))

pub count_more : (front more : List ℕ) (at count : ℕ) → at ≡ length (kept_front front) → at ≤ 149 → count ≡ min (length more) (149 - at) → at + count ≡ length (kept_front (front ++ more))
count_more front more at count begins room many =
    let kept = kept_front front in
    let whole : length (kept_front (front ++ more)) ≡ length kept + length (take (149 - length kept) more) = ap length (kept_more front more) ∙ length-append kept (take (149 - length kept) more) in
    omega (arith, begins, whole, many, length-take (149 - length kept) more)
