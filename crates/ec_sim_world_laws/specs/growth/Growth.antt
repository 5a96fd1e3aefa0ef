-- What is known grows as a program is looked at: nothing of it is lost but the names of scopes that are left.
use Rattle.std.specs.Prelude.{◌≡◌, ℕ, Bool, true, false, List, Some, slice_get}
use Rattle.ec_meaning_defs.specs.observed.Run.{IsFront}
use Rattle.ec_typing_defs.specs.Worlds.{MembersData, unlisted, begun, listed, StructInfo, World, Rule}

abbrev pub is_unlisted : MembersData → Bool
is_unlisted unlisted = true
is_unlisted begun = false
is_unlisted (listed ms) = false

-- a struct whose members are listed, or being listed further out, stays as it is
abbrev pub StructsStay : List StructInfo → List StructInfo → Type 0
StructsStay ss ts = (k : ℕ) (info : StructInfo) → slice_get ss k ≡ Some info
    → is_unlisted info.members ≡ false → slice_get ts k ≡ Some info

-- what is known here, and what is known behind some parts of the program
pub record Grows (w z : World) : Type 0 where
  pub written : z.written ≡ w.written
  pub defined : z.defined ≡ w.defined
  pub types : IsFront w.types z.types
  pub denoted : IsFront w.denoted z.denoted
  pub closed : IsFront w.closed z.closed
  pub structs : StructsStay w.structs z.structs

-- it does so by this rule
abbrev pub GrowsBy : {A : Type 0} → Rule A → Type 0
GrowsBy rule = (w : World) → Grows w (rule w).world
