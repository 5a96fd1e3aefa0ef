-- Pointers are complete, whatever they lead to.
use Rattle.std.proofs.Common.{◌≡◌, ◌≤◌, ℕ, zero, suc, true, refl, arith}
use Rattle.ec_ctypes.specs.trees.Types.{TyData, pointer}
use Rattle.ec_typing_defs.specs.Worlds.{World, is_complete}
use Rattle.ec_typing_defs.specs.Operands.{pointers}

pointer_complete : (w : World) (n : ℕ) (t : TyData) → true ≡ is_complete w (pointers n (pointer t))
pointer_complete w zero t = refl
pointer_complete w (suc n) t = pointer_complete w n (pointer t)

pub pointers_complete : (w : World) (n : ℕ) (t : TyData) → 1 ≤ n → true ≡ is_complete w (pointers n t)
pointers_complete w zero t h = absurd (omega arith)
pointers_complete w (suc n) t h = pointer_complete w n t
