-- What holds of the structs and the types of declarations behind a program.
use Rattle.std.specs.Prelude.{◌≡◌, ℕ, zero, suc, Bool, true, false, ◌&&◌, [], ◌∷◌, Option, Some, None, slice_get}
use Rattle.ec_ctypes.specs.trees.Types.{TyData, void, arithmetic, pointer, array, structure}
use Rattle.ec_typing_defs.specs.Expressions.{Members, varchar_members}
use Rattle.ec_typing_defs.specs.Worlds.{listed, StructInfo, World, shape_in, is_within}
use Rattle.ec_sim_world_laws.specs.closing.Closing.{members_at, HaveTypes}
use Rattle.ec_sim_world_laws.specs.place.Structs.{ClosedAreListed}

-- ---- VARCHARs

-- the struct of a VARCHAR has a length, and characters that may have a number
pub record IsVarchar (info : StructInfo) : Type 0 where
  pub length : Option ℕ
  pub is : info.members ≡ listed (varchar_members length)

abbrev pub VarcharsAre : World → Type 0
VarcharsAre w = (k : ℕ) (info : StructInfo) → slice_get w.structs k ≡ Some info
    → info.varchar ≡ true → IsVarchar info

-- ---- sizes

-- no array in this type, or behind a pointer in it, is larger than the limit or without a length
abbrev pub is_fitting : World → TyData → Bool
is_fitting w void = true
is_fitting w (arithmetic a) = true
is_fitting w (pointer t) = is_fitting w t
is_fitting w (array t zero) = false
is_fitting w (array t (suc n)) = is_within (shape_in w (array t (suc n))) && is_fitting w t
is_fitting w (structure k) = true

abbrev pub IsFittingIn : World → Option TyData → Type 0
IsFittingIn w None = Unit {0}
IsFittingIn w (Some t) = is_fitting w t ≡ true

abbrev pub AreFitting : World → Members → Type 0
AreFitting w [] = Unit {0}
AreFitting w (m ∷ ms) = IsFittingIn w m.1 × AreFitting w ms

-- no type of a declaration or a member is larger than the limit, and no struct
pub record TypesFit (w : World) : Type 0 where
  pub types : (k : ℕ) (t : TyData) → slice_get w.types k ≡ Some t → is_fitting w t ≡ true
  pub members : (k : ℕ) (ms : Members) → members_at w.structs k ≡ Some (listed ms)
      → AreFitting w ms
  pub structs : (k : ℕ) (info : StructInfo) → slice_get w.structs k ≡ Some info
      → is_within info.shape ≡ true

-- ---- together

-- the tables that stand behind an accepted source
pub record AreSound (z : World) : Type 0 where
  pub closed : ClosedAreListed z
  pub have_types : HaveTypes z
  pub varchars : VarcharsAre z
  pub fit : TypesFit z
