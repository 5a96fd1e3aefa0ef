-- A text ends within its object.
use Rattle.std.proofs.Common.{◌≡◌, ◌∙◌, refl, sym, ap, ℕ, zero, suc, ◌+◌, ◌*◌, ◌≤◌, Bool, true, List, [], ◌∷◌, length, drop, Some, None, Result, Ok, Err, pos, arith, length-drop}
use Rattle.std.specs.Prelude.{int_le, ◌&&◌, if◌then◌else◌, ◌+ℤ◌, ◌*ℤ◌, unsigned_abs}
use Rattle.std.proofs.lemmas.Bool.Decides.{nat_tests}
use Rattle.ec_base.specs.declared.stop.Trap.{Trap}
use Rattle.ec_base.specs.declared.stop.Trap.TheVariants.{Outside}
use Rattle.ec_memory_defs.specs.Cells.{Cell}
use Rattle.ec_memory_defs.specs.Memory.{Memory, and_then, object_cells, object_of, offset_of, pointer_to, text_at, text_of, moved}

longer : (b : ℕ) (bytes : List ℕ) (cells : List Cell) (r : Result (List ℕ) Trap) → ((bs : List ℕ) → r ≡ Ok bs → suc (length bs) ≤ length cells) → and_then r (λ bs. Ok (suc b ∷ bs)) ≡ Ok bytes → suc (length bytes) ≤ suc (length cells)
longer b bytes cells (Err t) below e = cc
longer b bytes cells (Ok bs) below e = let same : suc b ∷ bs ≡ bytes = cc in omega (arith, below bs refl, ap length same)

text_short : (cells : List Cell) (bytes : List ℕ) → text_of cells ≡ Ok bytes → suc (length bytes) ≤ length cells
text_short [] bytes e = cc
text_short (None ∷ cells) bytes e = cc
text_short (Some zero ∷ cells) bytes e = let same : [] ≡ bytes = cc in omega (arith, ap length same)
text_short (Some (suc b) ∷ cells) bytes e = longer b bytes cells (text_of cells) (λ bs. text_short cells bs) e

tested : (b c : Bool) (A : Type 0) (x y : A) → b ≡ true → c ≡ true → (if b && c then x else y) ≡ x
tested b c A x y e f = (λ i. if e i && c then x else y) ∙ (λ i. if true && f i then x else y)

move_of : (p n : ℕ) (found : Result (List Cell) Trap) (bytes : List ℕ) → n ≡ length bytes → and_then found (λ cells. text_of (drop (offset_of p) cells)) ≡ Ok bytes → and_then found (λ cells.
    if int_le (pos 0) (pos (offset_of p) +ℤ (pos n *ℤ pos 1)) && int_le (pos (offset_of p) +ℤ (pos n *ℤ pos 1)) (pos (length cells)) then Ok (pointer_to (object_of p) (unsigned_abs (pos (offset_of p) +ℤ (pos n *ℤ pos 1)))) else Err Outside) ≡ Ok (p + n)
move_of p n (Err t) bytes is e = cc
move_of p n (Ok cells) bytes is e =
    let short = text_short (drop (offset_of p) cells) bytes e in
    let room : offset_of p + n * 1 ≤ length cells = omega (arith, short, is, length-drop (offset_of p) cells) in
    let high : int_le (pos (offset_of p + n * 1)) (pos (length cells)) ≡ true = grind (arith, nat_tests) in
    let low : int_le (pos 0) (pos (offset_of p + n * 1)) ≡ true = grind (arith, nat_tests) in
    tested _ _ _ _ _ low high ∙ ap Ok (let same : pointer_to (object_of p) (offset_of p + n * 1) ≡ p + n = omega arith in same)

-- the pointer behind a text
pub behind_text : (m : Memory) (p n : ℕ) (bytes : List ℕ) → n ≡ length bytes → Ok bytes ≡ text_at m p → moved m p (pos n) 1 ≡ Ok (p + n)
behind_text m p n bytes is e = move_of p n (object_cells m (object_of p)) bytes is (sym e)
