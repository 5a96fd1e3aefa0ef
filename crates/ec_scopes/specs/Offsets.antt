-- Where the members of structs stand.
use Rattle.std.specs.Prelude.{◌≡◌, ℕ, suc, ◌+◌, List, [], ◌∷◌, Option, Some, None, option_map, option_and_then, if◌then◌else◌}
use Rattle.ec_ctypes.specs.declared.types.sizes.Shape.{Shape}
use Rattle.ec_ctypes.specs.Layout.{no_members, offset_behind, shape_among, member_behind}
use Rattle.ec_language.specs.Letters.{Text, same_text}
use Rattle.ec_typing_defs.specs.Expressions.{Members, typed_members}
use Rattle.ec_typing_defs.specs.Tables.{Named}
use Rattle.ec_typing_defs.specs.Worlds.{MembersData, unlisted, begun, listed}

-- the number of the pair that has this name
abbrev pub place_of : {V : Type 0} → Text → Named V → Option ℕ
place_of name [] = None
place_of name (e ∷ es) =
    if same_text name e.0 then Some 0 else option_map (λ i. suc i) (place_of name es)

abbrev pub started : ℕ → Option Shape → (ℕ → List ℕ) → List ℕ
started used None rest = []
started used (Some shape) rest =
    offset_behind used shape ∷ rest (offset_behind used shape + shape.size)

-- the offsets of members behind so many bytes, up to the first that has no size
abbrev pub starts : List (Option Shape) → ℕ → Members → List ℕ
starts shapes used [] = []
starts shapes used (m ∷ ms) =
    started used (option_and_then (shape_among shapes) m.1) (λ more. starts shapes more ms)

-- the offset of the first member of this name, where all members have types
abbrev pub offset_listed : List (Option Shape) → Text → Members → Option ℕ
offset_listed shapes name ms =
    option_and_then (λ ds. option_map (λ d. d.0) (member_behind shapes no_members name ds))
    (typed_members ms)

-- the same, of a struct whose members are these
abbrev pub offset_among : List (Option Shape) → Text → Option MembersData → Option ℕ
offset_among shapes name None = None
offset_among shapes name (Some unlisted) = None
offset_among shapes name (Some begun) = None
offset_among shapes name (Some (listed ms)) = offset_listed shapes name ms

-- a member that has a shape stands there behind so many bytes, and there are so many with it
pub record IsPlaced (used : ℕ) (member : Option Shape) (place : ℕ × ℕ) : Type 0 where
  pub shape : Shape
  pub is : member ≡ Some shape
  pub offset : place.0 ≡ offset_behind used shape
  pub behind : place.1 ≡ offset_behind used shape + shape.size
