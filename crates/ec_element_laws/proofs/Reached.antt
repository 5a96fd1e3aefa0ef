-- A pointer that moves by so much and then by so much moves by the sum.
use Rattle.std.proofs.Common.{◌≡◌, ◌∙◌, ◌≤◌, ◌<◌, ℕ, ◌+◌, ◌*◌, ◌^◌, pos, Bool, true, false, List, length, Result, Ok, Err, refl, sym, ap, arith}
use Rattle.std.proofs.lemmas.Bool.Decides.{nat_tests}
use Rattle.std.proofs.lemmas.Grind.{common_steps}
use Rattle.std.specs.Prelude.{nat_le, ◌&&◌, if◌then◌else◌}
use Rattle.ec_base.specs.declared.stop.Trap.{Trap}
use Rattle.ec_base.specs.declared.stop.Trap.TheVariants.{Outside}
use Rattle.ec_ctypes.specs.trees.Types.{TyData, StructData}
use Rattle.ec_host_defs.specs.Leaves.{LeafData}
use Rattle.ec_host_defs.specs.Places.{size_of}
use Rattle.ec_memory_defs.specs.Cells.{Cell}
use Rattle.ec_memory_defs.specs.Memory.{Memory, and_then, moved, object_cells, object_of, offset_of, pointer_to}
use Rattle.ec_element_laws.specs.Elements.{member_in_element, IsReached}

-- an offset in an object of so many bytes, or one past its end
abbrev pub within : ℕ → ℕ → ℕ → Result ℕ Trap
within n object x = if nat_le x n then Ok (pointer_to object x) else Err Outside

object_at : (object x n : ℕ) → x ≤ n → n < 2 ^ 32 → object_of (pointer_to object x) ≡ object
object_at object x n h k = omega (arith, h, k)

offset_at : (object x n : ℕ) → x ≤ n → n < 2 ^ 32 → offset_of (pointer_to object x) ≡ x
offset_at object x n h k = omega (arith, h, k)

from_zero : (x : ℕ) → nat_le 0 x ≡ true
from_zero x = grind (arith, nat_tests)

fits : (a b : ℕ) → nat_le a b ≡ true → a ≤ b
fits a b e = grind (arith, nat_tests)

past : (n a b : ℕ) → a + b ≡ b + a → nat_le a n ≡ false → nat_le (a + b) n ≡ false
past n a b c e = grind (arith, nat_tests, common_steps)

swapped : (a b : ℕ) → a + b ≡ b + a
swapped a b = omega arith

-- i sizes and a member are no size, the member, and i sizes
same_sum : (o s k i : ℕ) (a : ℕ) → (o + a) + k * 1 ≡ ((o + 0 * s) + k * 1) + a
same_sum o s k i a = omega arith

module _ (m : Memory) (cells : List Cell) (object : ℕ) (there : object_cells m object ≡ Ok cells) (small : length cells < 2 ^ 32) where
  -- a pointer into the object moves by its offset
  pub moves : (p i size : ℕ) → object_of p ≡ object → moved m p (pos i) size ≡ within (length cells) object (offset_of p + i * size)
  moves p i size e =
      let x = offset_of p + i * size in
      (λ j. and_then (object_cells m (e j)) (λ cells. if nat_le 0 x && nat_le x (length cells) then Ok (pointer_to (e j) x) else Err Outside))
      ∙ (λ j. and_then (there j) (λ cells. if from_zero x j && nat_le x (length cells) then Ok (pointer_to object x) else Err Outside))

  -- and from an offset on
  pub moves_on : (x i size : ℕ) → and_then (within (length cells) object x) (λ q. moved m q (pos i) size) ≡ within (length cells) object (x + i * size)
  moves_on x i size = go (nat_le x (length cells)) refl
    where
      go : (b : Bool) → nat_le x (length cells) ≡ b
          → and_then (if b then Ok (pointer_to object x) else Err Outside) (λ q. moved m q (pos i) size) ≡ within (length cells) object (x + i * size)
      go true e = moves (pointer_to object x) i size (object_at object x (length cells) (fits x (length cells) e) small)
          ∙ ap (λ o. within (length cells) object (o + i * size)) (offset_at object x (length cells) (fits x (length cells) e) small)
      go false e = sym (ap (λ b. if b then Ok (pointer_to object (x + i * size)) else Err Outside) (past (length cells) x (i * size) (swapped x (i * size)) e))

  -- the member in an element
  pub in_element : (structs : List StructData) (t : TyData) (p k i : ℕ) → object_of p ≡ object
      → member_in_element structs t k m p i ≡ within (length cells) object ((offset_of p + i * size_of structs t) + k * 1)
  in_element structs t p k i e = ap (λ r. and_then r (λ q. moved m q (pos k) 1)) (moves p i (size_of structs t) e)
      ∙ moves_on (offset_of p + i * size_of structs t) k 1

pub reached : (structs : List StructData) (t : TyData) (l : LeafData) → t ≡ l.apart → IsReached structs t l
reached structs t l e m p k i cells along there small =
    in_element m cells (object_of p) there small structs t p k i refl
    ∙ ap (within (length cells) (object_of p)) (same_sum (offset_of p) (size_of structs t) k i (i * size_of structs t))
    ∙ sym (moves_on m cells (object_of p) there small ((offset_of p + 0 * size_of structs t) + k * 1) i (size_of structs t))
    ∙ sym (ap (λ r. and_then r (λ first. moved m first (pos i) (size_of structs t))) (in_element m cells (object_of p) there small structs t p k 0 refl))
    ∙ ap (λ u. and_then (member_in_element structs t k m p 0) (λ first. moved m first (pos i) (size_of structs u))) e
