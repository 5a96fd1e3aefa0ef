-- What is taken of the laws on places, and what is known where a statement stands.
use Rattle.std.proofs.Common.{◌≡◌, ℕ, false, List, [], Some}
use Rattle.ec_ctypes.specs.trees.Exprs.{ExprData}
use Rattle.ec_ctypes.specs.trees.Types.{TyData, structure}
use Rattle.ec_language.specs.Letters.{Text}
use Rattle.ec_host_defs.specs.Leaves.{LeafData, leaves}
use Rattle.ec_host_defs.specs.Programs.{Denoted, variable_of, reference_type, member_type}
use Rattle.ec_typing_defs.specs.Answers.{struct_order, place_of, renumbered, structs_of}
use Rattle.ec_typing_defs.specs.Embedded.{reference_rule, denoted_by}
use Rattle.ec_typing_defs.specs.Types.{is_void}
use Rattle.ec_typing_defs.specs.Worlds.{Place, World, look_up}
use Rattle.ec_resolving_defs.specs.Storage.{Storage}
use Rattle.ec_sim_statement_laws.specs.expression.Worlds.{KeepsReserved, AllKeepReserved}
use Rattle.ec_sim_world_laws.specs.place.Places.{IsMember, AllLie}
use Rattle.ec_sim_world_laws.specs.place.References.{IsReference, IndexesHaveTypes, variable_in, NamesAreDeclared, tables_of, IsPlaceOf}
use Rattle.ec_sim_world_laws.specs.place.Structs.{IsListed, AreListed, IsWithin}
use Rattle.ec_sim_host_laws.specs.table.Tables.{AreSound}
use Rattle.ec_sim_host_laws.specs.fit.Fits.{HostsFit}

abbrev pub ReferencesArePlaces : Type 0
ReferencesArePlaces = (at : Place) (s : Storage) (w z : World) (hosts functions : List ℕ) → IsWithin w z
    → NamesAreDeclared w functions → (e : ExprData) → IsReference e → IndexesHaveTypes w e
    → (reference_rule at e w).found ≡ [] → (ds : Denoted)
    → variable_of ds ≡ denoted_by (look_up (variable_in e) w) → (there : TyData)
    → reference_type (tables_of z hosts functions) e ds ≡ Some there
    → is_void there ≡ false → IsPlaceOf at s w z e there

abbrev pub LeavesLie : Type 0
LeavesLie = (w z : World) → IsWithin w z → (t : TyData) → AreListed w t → (ls : List LeafData)
    → leaves (structs_of z) (renumbered (struct_order z) t) ≡ Some ls → AllLie w z t ls

abbrev pub MembersAreThose : Type 0
MembersAreThose = (w z : World) → IsWithin w z → (k : ℕ) → IsListed w k
    → (name : Text) (there : TyData)
    → member_type (structs_of z) name (structure (place_of k (struct_order z))) ≡ Some there
    → IsMember w z k name there

pub record PlaceLaws : Type 0 where
  pub references : ReferencesArePlaces
  pub lie : LeavesLie
  pub members : MembersAreThose

-- where a statement stands
pub record Here (w z : World) (hosts functions : List ℕ) : Type 0 where
  pub laws : PlaceLaws
  pub within : IsWithin w z
  pub names : NamesAreDeclared w functions
  pub sound : AreSound z
  pub fit : HostsFit z (tables_of z hosts functions)
  pub reserved_here : KeepsReserved w.here
  pub reserved_outer : AllKeepReserved w.outer
