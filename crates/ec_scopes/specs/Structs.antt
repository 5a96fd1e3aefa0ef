-- The structs of a program, as the definitions see what the code keeps of them.
use Rattle.std.specs.Prelude.{◌≡◌, ℕ, zero, suc, Bool, true, false, ◌&&◌, List, [], ◌∷◌, ◌++◌, length, map, Option, Some, None, IsSome, option_map, option_and_then, slice_get, slice_set}
use Rattle.ec_ctypes.specs.declared.types.sizes.Shape.{Shape}
use Rattle.ec_ctypes.specs.declared.types.ty.Ty.{Ty}
use Rattle.ec_ctypes.specs.views.Types.{ty_view}
use Rattle.ec_ctypes.specs.trees.Types.{TyData, void, arithmetic, pointer, array, structure}
use Rattle.ec_ctypes.specs.Layout.{shape_among, struct_shape}
use Rattle.ec_language.specs.Letters.{Text}
use Rattle.ec_typing_defs.specs.Worlds.{MembersData, unlisted, begun, listed, StructInfo, World, Rule, out, is_listed, is_within}
use Rattle.ec_typing_defs.specs.Expressions as rule
use Rattle.ec_scopes.specs.declared.measures.Measure.{Measure}
use Rattle.ec_scopes.specs.Counts.{counted}
use Rattle.ec_scopes.specs.Measures.{measured, IsSmallMeasure}
use Rattle.ec_scopes.specs.Offsets.{place_of, starts}
use Rattle.ec_scopes.specs.declared.structs.Members.{Members}
use Rattle.ec_scopes.specs.declared.structs.Members.TheVariants as m
use Rattle.ec_scopes.specs.declared.structs.StructRow.{StructRow}
use Rattle.ec_scopes.specs.Entries.{type_view, named_view}

abbrev pub members_view : Members → MembersData
members_view m.Unlisted = unlisted
members_view m.Begun = begun
members_view (m.Listed ms) = listed (named_view type_view ms)

abbrev pub are_unlisted : Members → Bool
are_unlisted m.Unlisted = true
are_unlisted m.Begun = false
are_unlisted (m.Listed ms) = false

-- members of a struct that are not listed, begun or not
abbrev pub begun_at : Bool → MembersData
begun_at true = begun
begun_at false = unlisted

-- the members that a struct lists
abbrev pub listed_of : MembersData → Option rule.Members
listed_of unlisted = None
listed_of begun = None
listed_of (listed ms) = Some ms

abbrev pub shapes_of : List StructInfo → List (Option Shape)
shapes_of is = map (λ s. s.shape) is

-- the shape of a struct with these members, over these structs
abbrev pub shape_by : List StructInfo → rule.Members → Option Shape
shape_by is ms = option_and_then (struct_shape (shapes_of is)) (rule.typed_members ms)

-- how many members a host of it stands for
abbrev pub stands_by : Bool → List StructInfo → rule.Members → ℕ
stands_by true is ms = 1
stands_by false is ms = rule.stands_for_all is ms

-- a struct whose members close over these structs
abbrev pub closed_of : Option Text → Bool → rule.Members → List StructInfo → StructInfo
closed_of tag varchar ms is =
    record {
      tag = tag;
      varchar = varchar;
      members = listed ms;
      shape = shape_by is ms;
      first = rule.first_of_members is ms;
      stands_for = stands_by varchar is ms;
    }

-- a struct before its members close
abbrev pub opened : StructRow → StructInfo
opened r = record {
  tag = r.tag;
  varchar = r.varchar;
  members = members_view r.members;
  shape = None;
  first = [];
  stands_for = 0;
}

abbrev pub close_as : StructRow → ℕ → Option rule.Members → List StructInfo → List StructInfo
close_as r k None is = is
close_as r k (Some ms) is = slice_set is k (closed_of r.tag r.varchar ms is)

abbrev pub close_at : Option StructRow → ℕ → List StructInfo → List StructInfo
close_at None k is = is
close_at (Some r) k is = close_as r k (listed_of (members_view r.members)) is

-- structs close in this order
abbrev pub closings : List StructRow → List ℕ → List StructInfo → List StructInfo
closings rows [] is = is
closings rows (k ∷ ks) is = closings rows ks (close_at (slice_get rows k) k is)

-- the structs by their numbers, of which these have closed in this order
abbrev pub infos : List StructRow → List ℕ → List StructInfo
infos rows closed = closings rows closed (map opened rows)

-- the members that the struct of this number lists
abbrev pub listed_at : List StructRow → ℕ → Option rule.Members
listed_at rows k = option_and_then (λ r. listed_of (members_view r.members)) (slice_get rows k)

abbrev pub AreListed : List StructRow → List ℕ → Type 0
AreListed rows [] = Unit {0}
AreListed rows (k ∷ ks) = IsSome (listed_at rows k) × AreListed rows ks

abbrev pub AreSmall : List StructRow → Type 0
AreSmall [] = Unit {0}
AreSmall (r ∷ rs) = IsSmallMeasure r.measure × AreSmall rs

-- the members that a struct lists, or none
abbrev pub members_or_none : Option rule.Members → rule.Members
members_or_none None = []
members_or_none (Some ms) = ms

abbrev pub members_in : StructRow → rule.Members
members_in r = members_or_none (listed_of (members_view r.members))

-- where an offset is kept for each member, the members stand there
abbrev pub IsStarted : List (Option Shape) → StructRow → Type 0
IsStarted shapes r =
    length r.offsets ≡ length (members_in r) → r.offsets ≡ starts shapes 0 (members_in r)

abbrev pub AreStarted : List (Option Shape) → List StructRow → Type 0
AreStarted shapes [] = Unit {0}
AreStarted shapes (r ∷ rs) = IsStarted shapes r × AreStarted shapes rs

-- an offset is kept for each member of the struct, and this is the one for the member of this name
pub record IsKeptAt (row : StructRow) (name : Text) (offset : ℕ) : Type 0 where
  pub members : rule.Members
  pub number : ℕ
  pub lists : listed_of (members_view row.members) ≡ Some members
  pub whole : length row.offsets ≡ length members
  pub named : place_of name members ≡ Some number
  pub kept : slice_get row.offsets number ≡ Some offset

-- Those that have closed list their members, and each struct is measured as its shape says, and counted as hosts of it stand for members, and where offsets are kept its members stand there.
pub record IsKept (rows : List StructRow) (closed : List ℕ) : Type 0 where
  pub lists : AreListed rows closed
  pub fits : AreSmall rows
  pub measures : map (λ r. r.measure) rows ≡ map (λ s. measured s.shape) (infos rows closed)
  pub counts : map (λ r. r.stands_for) rows ≡ map (λ s. counted s.stands_for) (infos rows closed)
  pub starts : AreStarted (shapes_of (infos rows closed)) rows

-- what is known of the size of a type among these structs
abbrev pub measure_in : List StructInfo → TyData → Measure
measure_in is t = measured (shape_among (shapes_of is) t)

-- the shape of a member that is there and has a type
abbrev pub member_shape : List StructInfo → Option (Option Ty) → Option Shape
member_shape is None = None
member_shape is (Some None) = None
member_shape is (Some (Some t)) = shape_among (shapes_of is) (ty_view t)

-- the members of the struct of this number
abbrev pub members_at : List StructRow → List ℕ → ℕ → Option MembersData
members_at rows closed k = option_map (λ s. s.members) (slice_get (infos rows closed) k)

abbrev pub is_begun : Option StructRow → Bool
is_begun None = false
is_begun (Some r) =
    elim (members_view r.members) [ unlisted ↦ false | begun ↦ true | listed ms ↦ false ]

-- complete types among these structs
abbrev pub complete_in : List StructInfo → TyData → Bool
complete_in is void = false
complete_in is (arithmetic a) = true
complete_in is (pointer t) = true
complete_in is (array t zero) = false
complete_in is (array t (suc n)) = complete_in is t
complete_in is (structure k) = is_listed (option_map (λ s. s.members) (slice_get is k))

-- no array type in this one is larger than the limit
abbrev pub arrays_within_in : List StructInfo → TyData → Bool
arrays_within_in is (array t n) =
    is_within (shape_among (shapes_of is) (array t n)) && arrays_within_in is t
arrays_within_in is void = true
arrays_within_in is (arithmetic a) = true
arrays_within_in is (pointer t) = true
arrays_within_in is (structure k) = true

-- this struct closes with these members: what is known of its size
abbrev pub struct_closed : ℕ → Option Text → Bool → rule.Members → World → World
struct_closed k tag varchar ms w =
    record w {
      structs = slice_set w.structs k (closed_of tag varchar ms w.structs);
      closed = w.closed ++ k ∷ [];
    }

abbrev pub struct_closing : ℕ → Option Text → Bool → rule.Members → Rule Measure
struct_closing k tag varchar ms =
    λ w. out (measured (shape_by w.structs ms)) [] (struct_closed k tag varchar ms w)

-- a VARCHAR's struct that closes as soon as it is met: its number, and what is known of its size
abbrev pub varchar_closing : Option Text → rule.Members → Rule (ℕ × Measure)
varchar_closing tag ms =
    λ w. out (length w.structs, measured (shape_by w.structs ms)) []
    (record w {
      structs = w.structs ++ closed_of tag true ms w.structs ∷ [];
      closed = w.closed ++ length w.structs ∷ [];
    })
