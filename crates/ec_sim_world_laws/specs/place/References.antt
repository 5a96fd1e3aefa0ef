-- The references of embedded statements, and what holds of the names in them.
use Rattle.std.specs.Prelude.{◌≡◌, ℕ, Bool, true, false, List, [], Option, Some, None, slice_get}
use Rattle.ec_ctypes.specs.trees.Exprs.{ExprData, integer, identifier, index, member, arrow}
use Rattle.ec_ctypes.specs.trees.Types.{TyData, arithmetic}
use Rattle.ec_language.specs.Letters.{Text}
use Rattle.ec_host_defs.specs.Programs.{ProgramData, is_among}
use Rattle.ec_typing_defs.specs.Statements.{type_or_void}
use Rattle.ec_typing_defs.specs.Types.{is_void}
use Rattle.ec_typing_defs.specs.Worlds.{Place, EntryData, object, function, World, look_up}
use Rattle.ec_typing_defs.specs.Answers.{struct_order, renumbered, structs_of, names_of}
use Rattle.ec_meaning_defs.specs.resolved.Resolved.{Exp}
use Rattle.ec_resolving_defs.specs.Storage.{Storage}
use Rattle.ec_resolving_defs.specs.Expressions.{expr}
use Rattle.ec_resolving_defs.specs.Embedded.{reference_rule}
use Rattle.ec_sim_statement_laws.specs.argument.Pointers.{IsPlace}
use Rattle.ec_sim_world_laws.specs.place.Structs.{IsListed, EachStructIn, AreListed}

-- an index: a number or a name
abbrev pub IsIndex : ExprData → Type 0
IsIndex (integer n (arithmetic a)) = Unit {0}
IsIndex (identifier x) = Unit {0}
IsIndex _ = ⊥

-- a name with its suffixes
abbrev pub IsReference : ExprData → Type 0
IsReference (identifier x) = Unit {0}
IsReference (index a b) = IsReference a × IsIndex b
IsReference (member e m) = IsReference e
IsReference (arrow e m) = IsReference e
IsReference _ = ⊥

-- the name of its variable
abbrev pub variable_in : ExprData → Text
variable_in (identifier x) = x
variable_in (index a b) = variable_in a
variable_in (member e m) = variable_in e
variable_in (arrow e m) = variable_in e
variable_in _ = []

-- ---- what names stand for

-- an object is not void
abbrev pub IsNoVoid : Option TyData → Type 0
IsNoVoid None = Unit {0}
IsNoVoid (Some t) = is_void t ≡ false

abbrev pub IsSomeType : Option TyData → Type 0
IsSomeType None = ⊥
IsSomeType (Some t) = Unit {0}

-- an object has a type
abbrev pub IsTypedEntry : Option EntryData → Type 0
IsTypedEntry None = Unit {0}
IsTypedEntry (Some (object k global t)) = IsSomeType t
IsTypedEntry (Some (function k done r ps)) = Unit {0}

abbrev pub IndexHasType : World → ExprData → Type 0
IndexHasType w (identifier x) = IsTypedEntry (look_up x w)
IndexHasType w _ = Unit {0}

-- Each name that is an index stands for what has a type: the tables, which tell of no index, give the type of an element whatever that of its index
abbrev pub IndexesHaveTypes : World → ExprData → Type 0
IndexesHaveTypes w (index a b) = IndexesHaveTypes w a × IndexHasType w b
IndexesHaveTypes w (member e m) = IndexesHaveTypes w e
IndexesHaveTypes w (arrow e m) = IndexesHaveTypes w e
IndexesHaveTypes w _ = Unit {0}

-- the declaration of this number is that of an object of this type, if it has one: the table has it, void where there is none, and the structs in it are listed
pub record IsDeclared (w : World) (k : ℕ) (t : Option TyData) : Type 0 where
  pub in_table : slice_get w.types k ≡ Some (type_or_void t)
  pub are_listed : EachStructIn (IsListed w) t
  pub no_void : IsNoVoid t

-- What holds of names where no declaration is being read: each object is declared so, and each function is one of these
pub record NamesAreDeclared (w : World) (functions : List ℕ) : Type 0 where
  pub objects : (x : Text) (k : ℕ) (global : Bool) (t : Option TyData)
      → look_up x w ≡ Some (object k global t) → IsDeclared w k t
  pub are_functions : (x : Text) (k : ℕ) (done : Bool) (r : Option TyData)
      (ps : Option (List (Option TyData)))
      → look_up x w ≡ Some (function k done r ps) → is_among k functions ≡ true

-- what hosts are looked at with, by what is known behind the whole source
abbrev pub tables_of : World → List ℕ → List ℕ → ProgramData
tables_of z hosts functions = record {
  structs = structs_of z;
  names = names_of z;
  hosts = hosts;
  functions = functions;
}

-- ---- references and places

-- the expression is a place, whose type is this one in the tables; as a reference it is the expression
pub record IsPlaceOf (at : Place) (s : Storage) (w z : World) (e : ExprData) (there : TyData)
    : Type 0 where
  pub type : TyData
  pub address : Exp
  pub is : IsPlace at s w e type address
  pub same : there ≡ renumbered (struct_order z) type
  pub are_listed : AreListed w type
  pub rule : reference_rule at e s w ≡ expr at e s w
