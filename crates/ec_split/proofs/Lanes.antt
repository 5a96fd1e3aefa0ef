-- Newlines in bytes that are looked at all at once.
use Rattle.std.proofs.Common.{◌≡◌, ℕ, ◌+◌, ◌-◌, ◌%◌, ◌^◌, ◌≤◌, eqb, cond, Bool, true, false, List, [], ◌∷◌, ◌++◌, map, length, take, drop, replicate, refl, sym, ap, ◌∙◌, count_ones, count_by, drop-drop, take-append-drop, take_all, length-drop, arith, w8}
use Rattle.std.proofs.lemmas.List.Sums.{sum_by-cons}
use Rattle.std.proofs.lemmas.Simd.{length-chunk, bitmask_splat, ones-mask_l}
use lib.Lanes.{mask_l, top, zip2}
use Rattle.ec_language.specs.Line.{newlines}
use Rattle.ec_language.proofs.ReadLaws.{newlines-append}

counted : (xs : List ℕ) → count_by (λ x. eqb x 10) xs ≡ newlines xs
counted [] = refl
counted (x ∷ xs) = sum_by-cons (λ y. cond (eqb y 10) 1 0) x xs ∙ ap (λ n. cond (eqb x 10) 1 0 + n) (counted xs)

-- the lanes that hold a newline, as a mask
abbrev pub found : List ℕ → ℕ → ℕ → ℕ
found bytes at n = mask_l (map (top 7) (zip2 (λ a b. cond (eqb a b) 255 0) (take n (drop at bytes)) (replicate n 10))) % 2 ^ 64

pub lines_found : (bytes : List ℕ) (at n : ℕ) → at + n ≤ length bytes → n ≤ 64 → count_ones (found bytes at n) ≡ newlines (take n (drop at bytes))
lines_found bytes at n h k =
    let v = take n (drop at bytes) in
    ap count_ones (bitmask_splat w8 eqb v n 10 (length-chunk at n bytes h) k) ∙ ones-mask_l (λ x. eqb x 10) v ∙ counted v

pub none_found : (bytes : List ℕ) (at n : ℕ) → at + n ≤ length bytes → n ≤ 64 → found bytes at n ≡ 0 → 0 ≡ newlines (take n (drop at bytes))
none_found bytes at n h k e = sym (ones-mask_l (λ x. eqb x 10) []) ∙ ap count_ones (sym e) ∙ lines_found bytes at n h k

-- ---- one step of the count

few_lines : (xs : List ℕ) → newlines xs ≤ length xs
few_lines [] = omega arith
few_lines (x ∷ xs) = let h = few_lines xs in go (eqb x 10) refl h
  where
    go : (b : Bool) → eqb x 10 ≡ b → newlines xs ≤ length xs → newlines (x ∷ xs) ≤ length (x ∷ xs)
    go true e h = let k : newlines (x ∷ xs) ≡ 1 + newlines xs = rw (e, newlines) refl in omega (arith, k)
    go false e h = let k : newlines (x ∷ xs) ≡ 0 + newlines xs = rw (e, newlines) refl in omega (arith, k)

-- behind so many bytes
pub lines_behind : (bytes : List ℕ) (at n : ℕ) → newlines (take n (drop at bytes)) + newlines (drop (at + n) bytes) ≡ newlines (drop at bytes)
lines_behind bytes at n =
    sym (newlines-append (take n (drop at bytes)) (drop (at + n) bytes))
    ∙ ap newlines (ap (λ r. take n (drop at bytes) ++ r) (sym (drop-drop n at bytes)) ∙ take-append-drop n (drop at bytes))

pub lines_within : (bytes : List ℕ) (at n : ℕ) → at + n ≤ length bytes → newlines (take n (drop at bytes)) ≤ n
lines_within bytes at n h = omega (arith, few_lines (take n (drop at bytes)), length-chunk at n bytes h)

pub rest_is : (bytes : List ℕ) (at : ℕ) → take (length bytes - at) (drop at bytes) ≡ drop at bytes
rest_is bytes at = take_all (length bytes - at) (drop at bytes) (omega (arith, length-drop at bytes))
