-- Pieces that are written one behind the other.
use Rattle.std.proofs.Common.{◌≡◌, ◌∙◌, sym, ap, refl, ℕ, zero, suc, ◌+◌, ◌≤◌, List, [], ◌∷◌, ◌++◌, length, take, drop, replicate, Some, arith, length-append, append_assoc}
use Rattle.std.proofs.lemmas.List.{drop-drop, length-take-le, take_at, drop_at, map-append, length-replicate}
use Rattle.ec_memory_defs.specs.Cells.{Cell, written, set_cells, filled_cells}

-- two pieces, the second right behind the first, are one
pub written_behind : {X : Type 0} (xs : List X) (at k : ℕ) (a b : List X) → at ≤ length xs → k ≡ at + length a → written (written xs at a) k b ≡ written xs at (a ++ b)
written_behind xs at k a b fits is =
    let front : length (take at xs ++ a) ≡ k = length-append (take at xs) a ∙ ap (λ n. n + length a) (length-take-le at xs fits) ∙ sym is in
    let rest : drop (at + length a) xs ≡ drop k xs = ap (λ n. drop n xs) (sym is) in
    let behind : drop (k + length b) (written xs at a) ≡ drop (at + length (a ++ b)) xs =
    sym (drop-drop (length b) k (written xs at a))
    ∙ ap (drop (length b)) (drop_at (take at xs ++ a) (drop (at + length a) xs) k front ∙ rest)
    ∙ drop-drop (length b) k xs
    ∙ ap (λ n. drop n xs) (let sum : k + length b ≡ at + length (a ++ b) = omega (arith, length-append a b, is) in sum) in
    ap (λ t. t ++ b ++ drop (k + length b) (written xs at a)) (take_at (take at xs ++ a) (drop (at + length a) xs) k front)
    ∙ ap (λ t. take at xs ++ a ++ b ++ t) behind
    ∙ ap (λ t. t ++ drop (at + length (a ++ b)) xs) (append_assoc (take at xs) a b)

-- zero bytes are cells that are filled
pub filled : (n b : ℕ) → set_cells (replicate n b) ≡ filled_cells n b
filled zero b = refl
filled (suc n) b = ap (λ cells. Some b ∷ cells) (filled n b)

-- as many cells as bytes
length-set : (xs : List ℕ) → length (set_cells xs) ≡ length xs
length-set [] = refl
length-set (x ∷ xs) = ap suc (length-set xs)

-- a piece, and zero bytes behind it
pub two_parts : (cells first second : List Cell) (at end : ℕ) (a : List ℕ) (n : ℕ) → at ≤ length cells → first ≡ written cells at (set_cells a) → second ≡ written first end (filled_cells n 0) → end ≡ at + length a → second ≡ written cells at (set_cells (a ++ replicate n 0))
two_parts cells first second at end a n fits is1 is2 ends =
    is2 ∙ ap (λ t. written t end (filled_cells n 0)) is1
    ∙ written_behind cells at end (set_cells a) (filled_cells n 0) fits (omega (arith, ends, length-set a))
    ∙ ap (λ t. written cells at (set_cells a ++ t)) (sym (filled n 0))
    ∙ ap (written cells at) (sym (map-append Some a (replicate n 0)))

-- how many bytes they are
pub parts_length : (a : List ℕ) (n : ℕ) → length (a ++ replicate n 0) ≡ length a + n
parts_length a n = length-append a (replicate n 0) ∙ ap (λ k. length a + k) (length-replicate n 0)
