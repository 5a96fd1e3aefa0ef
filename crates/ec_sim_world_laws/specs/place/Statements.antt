-- The references of an embedded statement where it stands, one behind the other.
use Rattle.std.specs.Prelude.{◌≡◌, ℕ, List, [], ◌∷◌, Some, take, codes}
use Rattle.ec_ctypes.specs.trees.Exprs.{ExprData}
use Rattle.ec_ctypes.specs.trees.Types.{TyData, void, arithmetic, pointer, array, structure, StructData}
use Rattle.ec_host_defs.specs.Programs.{variable_of, member_type, names_count}
use Rattle.ec_typing_defs.specs.statement_parts.References.{References}
use Rattle.ec_typing_defs.specs.Embedded.{reference_rule, denoted_by}
use Rattle.ec_typing_defs.specs.Worlds.{Place, World, look_up}
use Rattle.ec_meaning_defs.specs.resolved.Resolved.{Exp}
use Rattle.ec_resolving_defs.specs.Storage.{Storage}
use Rattle.ec_resolving_defs.specs.Expressions.{expr}
use Rattle.ec_direct_defs.specs.Statements.{Around, behind, reference_at}
use Rattle.ec_sim_statement_laws.specs.argument.Pointers.{value_of}
use Rattle.ec_sim_world_laws.specs.place.References.{IsReference, IndexesHaveTypes, variable_in}

module _ (at : Place) (s : Storage) (w : World) where
  -- what a pointer is resolved to
  abbrev pub pointer_exp : ExprData → Exp
  pointer_exp e = (value_of at e s w).answer.exp

  -- The reference that comes next is this one: nothing is wrong with it, its first name is that of its variable, and it has this address
  pub record ReferenceIs (e : ExprData) (x : Around) : Type 0 where
    pub form : IsReference e
    pub indexes : IndexesHaveTypes w e
    pub clean : (reference_rule at e w).found ≡ []
    pub variable : variable_of (take (names_count e) x.denoted)
        ≡ denoted_by (look_up (variable_in e) w)
    pub address : (expr at e s w).answer.exp ≡ reference_at 0 x

  -- these come next
  abbrev pub ReferencesAre : References → Around → Type 0
  ReferencesAre [] x = Unit {0}
  ReferencesAre (r ∷ rs) x =
      ReferenceIs r.value x × ReferencesAre rs (behind (names_count r.value) 1 x)

-- A type that names a text: a pointer, an array, or a struct whose characters are an array
abbrev pub NamesText : List StructData → TyData → Type 0
NamesText structs void = ⊥
NamesText structs (arithmetic a) = ⊥
NamesText structs (pointer t) = Unit {0}
NamesText structs (array t n) = Unit {0}
NamesText structs (structure k) =
    (t : TyData) × (n : ℕ) × (member_type structs (codes "arr") (structure k) ≡ Some (array t n))
