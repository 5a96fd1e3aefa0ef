-- Parts of lists, and pieces written into them.
use Rattle.std.proofs.Common.{◌≡◌, ◌∙◌, sym, ap, refl, ℕ, zero, suc, ◌+◌, ◌-◌, ◌≤◌, List, [], ◌∷◌, ◌++◌, length, take, drop, arith, length-append}
use Rattle.std.proofs.lemmas.List.{drop-drop, length-take-le, take_at, drop_at, take-take, drop-take}
use Rattle.std.proofs.Math.Seq.{take-add}
use Rattle.ec_memory_defs.specs.Cells.{part_of, written}

-- a part of what is left behind others
pub part_dropped : {X : Type 0} (xs : List X) (s o n : ℕ) → s ≤ o → part_of (drop s xs) (o - s) n ≡ part_of xs o n
part_dropped xs s o n fits = ap (take n) (drop-drop (o - s) s xs ∙ ap (λ k. drop k xs) (let sum : s + (o - s) ≡ o = omega arith in sum))

-- a part of a part
pub part_part : {X : Type 0} (xs : List X) (b s o n : ℕ) → o + n ≤ s → part_of (part_of xs b s) o n ≡ part_of xs (b + o) n
part_part xs b s o n fits =
    let sum : s ≡ o + (s - o) = omega arith in
    ap (λ k. part_of (part_of xs b k) o n) sum ∙ ap (take n) (drop-take o (s - o) (drop b xs))
    ∙ take-take n (s - o) (drop o (drop b xs)) (omega arith) ∙ ap (take n) (drop-drop o b xs)

-- the front of joined lists
pub drop_joined : {X : Type 0} (n : ℕ) (xs ys : List X) → n ≤ length xs → drop n (xs ++ ys) ≡ drop n xs ++ ys
drop_joined zero xs ys fits = refl
drop_joined (suc n) [] ys fits = absurd (omega arith)
drop_joined (suc n) (x ∷ xs) ys fits = drop_joined n xs ys (omega arith)

-- a piece written behind what is dropped
pub drop_written : {X : Type 0} (xs : List X) (at : ℕ) (piece : List X) (s : ℕ) → s ≤ at → at + length piece ≤ length xs → drop s (written xs at piece) ≡ written (drop s xs) (at - s) piece
drop_written xs at piece zero before fits = ap (λ k. written xs k piece) (let same : at ≡ at - 0 = omega arith in same)
drop_written [] at piece (suc s) before fits = absurd (omega arith)
drop_written (x ∷ xs) zero piece (suc s) before fits = absurd (omega arith)
drop_written (x ∷ xs) (suc at) piece (suc s) before fits =
    ap (λ k. drop s (take at xs ++ piece ++ drop k (x ∷ xs))) (let sum : suc at + length piece ≡ suc (at + length piece) = omega arith in sum)
    ∙ drop_written xs at piece s (omega arith) (omega arith)
    ∙ ap (λ k. written (drop s xs) k piece) (let same : at - s ≡ suc at - suc s = omega arith in same)

-- a piece written into the front
pub take_written : {X : Type 0} (xs : List X) (at : ℕ) (piece : List X) (s : ℕ) → at + length piece ≤ s → s ≤ length xs → take s (written xs at piece) ≡ written (take s xs) at piece
take_written xs at piece s inside fits =
    let j = at + length piece in
    let r = s - j in
    let sum : s ≡ j + r = omega arith in
    let front : length (take at xs ++ piece) ≡ j = length-append (take at xs) piece ∙ ap (λ n. n + length piece) (length-take-le at xs (omega arith)) in
    let rest : drop j (take s xs) ≡ take r (drop j xs) = ap (λ n. drop j (take n xs)) sum ∙ drop-take j r xs in
    ap (λ n. take n (written xs at piece)) sum
    ∙ take-add j r (written xs at piece)
    ∙ ap (λ t. t ++ take r (drop j (written xs at piece))) (take_at (take at xs ++ piece) (drop j xs) j front)
    ∙ ap (λ d. take at xs ++ piece ++ take r d) (drop_at (take at xs ++ piece) (drop j xs) j front)
    ∙ ap (λ d. take at xs ++ piece ++ d) (sym rest)
    ∙ ap (λ t. t ++ piece ++ drop j (take s xs)) (sym (take-take at s xs (omega arith)))
