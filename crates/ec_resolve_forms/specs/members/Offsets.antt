-- Offsets of members, as they are looked for one member after the other.
use Rattle.std.specs.Prelude.{ℕ, Bool, true, false, List, [], ◌∷◌, Option, Some, None, option_map, option_and_then}
use Rattle.ec_ctypes.specs.declared.types.sizes.Shape.{Shape}
use Rattle.ec_ctypes.specs.Layout.{no_members, with_member, offset_behind, shape_among, member_behind}
use Rattle.ec_ctypes.specs.trees.Types.{TyData}
use Rattle.ec_language.specs.Letters.{Text, same_text}
use Rattle.ec_resolving_defs.specs.Operands.{offset_among}
use Rattle.ec_typing_defs.specs.Expressions.{Members, typed_members}
use Rattle.ec_typing_defs.specs.Worlds.{World, members_of}
use Rattle.ec_resolve_forms.specs.declared.members.offsets.Passed.{Passed}
use Rattle.ec_resolve_forms.specs.declared.members.offsets.Passed.TheVariants.{Here, Behind, Nowhere}

-- a member of this shape is passed, behind these members
abbrev pub passed_shape : Shape → Bool → Option Shape → Passed
passed_shape before named None = Nowhere
passed_shape before true (Some shape) = Here (offset_behind before.size shape)
passed_shape before false (Some shape) = Behind (with_member before shape)

abbrev pub passed_type : List (Option Shape) → Shape → Bool → Option TyData → Passed
passed_type shapes before named None = Nowhere
passed_type shapes before named (Some t) = passed_shape before named (shape_among shapes t)

abbrev pub passed : List (Option Shape) → Shape → Text → Text × Option TyData → Passed
passed shapes before name m = passed_type shapes before (same_text m.0 name) m.1

abbrev pub passed_at : List (Option Shape) → Shape → Text → Option (Text × Option TyData) → Passed
passed_at shapes before name None = Nowhere
passed_at shapes before name (Some m) = passed shapes before name m

-- what is found behind a member that was passed, if it is none of it
abbrev pub found_behind : Passed → (Shape → Option ℕ) → Option ℕ
found_behind Nowhere k = None
found_behind (Here offset) k = Some offset
found_behind (Behind more) k = k more

-- the offset of the member of this name, of members that stand behind others
abbrev pub offset_from : List (Option Shape) → Shape → Text → Members → Option ℕ
offset_from shapes before name [] = None
offset_from shapes before name (m ∷ ms) =
    found_behind (passed shapes before name m) (λ more. offset_from shapes more name ms)

abbrev pub is_untyped : Option TyData → Bool
is_untyped None = true
is_untyped (Some t) = false

-- there is no such member, or it has no type
abbrev pub is_untyped_at : Option (Text × Option TyData) → Bool
is_untyped_at None = true
is_untyped_at (Some m) = is_untyped m.1

-- the offset among the members of a struct, if each of them has a type
abbrev pub offset_by : List (Option Shape) → Text → Members → Option ℕ
offset_by shapes name ms =
    option_and_then (λ ds. option_map (λ d. d.0) (member_behind shapes no_members name ds))
    (typed_members ms)

-- the offset of a member in the struct of this number
abbrev pub offset_in : World → Option ℕ → Text → Option ℕ
offset_in w None name = None
offset_in w (Some k) name = offset_among w name (members_of k w)
