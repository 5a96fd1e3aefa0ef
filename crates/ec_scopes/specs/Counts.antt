-- How many members a host stands for, as far as it counts.
use Rattle.std.specs.Prelude.{ℕ, ◌+◌, nat_le, List, Option, Some, None, if◌then◌else◌}
use Rattle.ec_ctypes.specs.declared.types.ty.Ty.{Ty}
use Rattle.ec_ctypes.specs.views.Types.{ty_view}
use Rattle.ec_ctypes.specs.trees.Types.{TyData, array}
use Rattle.ec_typing_defs.specs.Worlds.{StructInfo}
use Rattle.ec_typing_defs.specs.Expressions.{stands_for}
use Rattle.ec_typing_defs.specs.Embedded.{max_members}

-- a number up to the limit; all others are the one above it
abbrev pub counted : ℕ → ℕ
counted n = if nat_le n max_members then n else max_members + 1

-- a member, if it is there; one without a type stands for itself
abbrev pub member_stands : List StructInfo → Option (Option Ty) → ℕ
member_stands is None = 0
member_stands is (Some None) = 1
member_stands is (Some (Some t)) = stands_for is (ty_view t)

-- a host of this type; an array of structs stands for the members of one of them
abbrev pub members_among : List StructInfo → TyData → ℕ
members_among is (array t n) = stands_for is t
members_among is t = stands_for is t
