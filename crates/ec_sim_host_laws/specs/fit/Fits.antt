-- The numbers that are written for the leaves of a host are those of a call.
use Rattle.std.specs.Prelude.{◌≡◌, ℕ, Bool, true, false, List, [], ◌∷◌, Option, Some, None, option_map, option_and_then}
use Rattle.ec_arguments.specs.Arguments.{Place}
use Rattle.ec_arguments.specs.Rules.{fits_place}
use Rattle.ec_ctypes.specs.trees.Checked.{PlaceData}
use Rattle.ec_ctypes.specs.trees.Embedded.{HostData}
use Rattle.ec_ctypes.specs.trees.Exprs.{ExprData}
use Rattle.ec_ctypes.specs.trees.Types.{TyData, StructData}
use Rattle.ec_expansion_defs.specs.Calls.{indicator_of}
use Rattle.ec_host_defs.specs.Faults.{host_faults}
use Rattle.ec_host_defs.specs.Leaves.{Pair, hosted}
use Rattle.ec_host_defs.specs.Places.{leaf_place}
use Rattle.ec_host_defs.specs.Programs.{ProgramData, Denoted, reference_type}
use Rattle.ec_host_defs.specs.Uses.{RoleData, text_role, input_role, output_role, number_role, item_role}
use Rattle.ec_typing_defs.specs.Answers.{struct_order, renumbered}
use Rattle.ec_typing_defs.specs.Worlds.{World}
use Rattle.ec_sim_world_laws.specs.place.References.{IsReference, tables_of}
use Rattle.ec_sim_world_laws.specs.place.Structs.{AreListed}
use Rattle.ec_sim_host_laws.specs.table.Tables.{AreSound}

-- a place as an argument of a call
abbrev pub place_of : PlaceData → Place ExprData
place_of p = record {
  sym = p.sym;
  value = p.value;
  size = p.size;
  count = p.count;
  step = p.step;
  ind = option_map indicator_of p.ind;
}

-- a host with leaves, and no name of something
abbrev pub is_value : RoleData → Bool
is_value text_role = false
is_value input_role = true
is_value output_role = true
is_value number_role = true
is_value item_role = true

-- one that is read once, or stored into once
abbrev pub is_one : RoleData → Bool
is_one text_role = false
is_one input_role = true
is_one output_role = false
is_one number_role = true
is_one item_role = true

-- a leaf with that of its indicator
pub record PairFits (structs : List StructData) (role : RoleData) (h : HostData) (q : Pair)
    : Type 0 where
  pub fits : fits_place (place_of (leaf_place structs h.value h.indicator q)) ≡ true
  pub single : is_one role ≡ true → q.0.count ≡ 1

abbrev pub AllFit : List StructData → RoleData → HostData → List Pair → Type 0
AllFit structs role h [] = Unit {0}
AllFit structs role h (q ∷ qs) = PairFits structs role h q × AllFit structs role h qs

-- there is one
abbrev pub AreSome : List Pair → Type 0
AreSome [] = ⊥
AreSome (q ∷ qs) = Unit {0}

-- ---- hosts

-- a reference of a type whose structs are listed
pub record HasType (z : World) (p : ProgramData) (e : ExprData) (ds : Denoted) : Type 0 where
  pub form : IsReference e
  pub type : TyData
  pub is : reference_type p e ds ≡ Some (renumbered (struct_order z) type)
  pub are_listed : AreListed z type

abbrev pub OptionHasType : World → ProgramData → Option ExprData → Denoted → Type 0
OptionHasType z p None ds = Unit {0}
OptionHasType z p (Some e) ds = HasType z p e ds

pub record HostFits (structs : List StructData) (role : RoleData) (h : HostData) (qs : List Pair)
    : Type 0 where
  pub all : AllFit structs role h qs
  pub are_some : AreSome qs

-- a host that isn't at fault, by what its variables and those of its indicator denote
abbrev pub HostsFit : World → ProgramData → Type 0
HostsFit z p = (role : RoleData) (h : HostData) (ds is : Denoted) → is_value role ≡ true
    → HasType z p h.value ds → OptionHasType z p h.indicator is → host_faults p role h ds is ≡ []
    → HostFits p.structs role h (hosted p.structs (reference_type p h.value ds)
    (option_and_then (λ i. reference_type p i is) h.indicator))

abbrev pub HostsFitTheirCalls : Type 0
HostsFitTheirCalls = (z : World) → AreSound z → (hosts functions : List ℕ)
    → HostsFit z (tables_of z hosts functions)
