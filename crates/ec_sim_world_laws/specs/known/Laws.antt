-- What holds is kept by the walk through a source: the laws, by the parts of a program.
use Rattle.std.specs.Prelude.{◌≡◌, ℕ, true, false, Bool, List, [], Option, None}
use Rattle.ec_base.specs.declared.line.Line.{Line}
use Rattle.ec_ctypes.specs.trees.Embedded.{EmbData}
use Rattle.ec_ctypes.specs.trees.Exprs.{ExprData, BaseData, DimList, DeclaratorData, DeclData}
use Rattle.ec_ctypes.specs.trees.Types.{TyData}
use Rattle.ec_ctypes.specs.trees.Units.{ParamData, UnitData}
use Rattle.ec_language.specs.Letters.{Text}
use Rattle.ec_host_defs.specs.Programs.{is_among}
use Rattle.ec_host_defs.specs.sections.Declared.{functions_of}
use Rattle.ec_typing_defs.specs.statement_parts.References.{References}
use Rattle.ec_typing_defs.specs.Tables.{Named}
use Rattle.ec_typing_defs.specs.Programs.{start, result_rule, begin_function, know_function}
use Rattle.ec_typing_defs.specs.Worlds.{Place, function, place, change, enter, leave, declare_label, number_as}
use Rattle.ec_resolving_defs.specs.Expressions.{expr, base, lengths}
use Rattle.ec_resolving_defs.specs.Statements.{object_item, declaration, condition, alone, optional, optional_condition, return_by}
use Rattle.ec_resolving_defs.specs.Embedded.{references_rule, handlers_rule, embedded_rule}
use Rattle.ec_resolving_defs.specs.Programs.{params, no_storage}
use Rattle.ec_resolving_defs.specs.Storage.{◌>>◌, checks, arrange, with_site, nowhere}
use Rattle.ec_sim_world_laws.specs.known.Known.{IsKnown, Keeps}
use Rattle.ec_sim_world_laws.specs.known.Positions.{StartsBeforeAll, ItemsArePassed, FunctionsAreNumbered, TypesDeclareNone}

-- by the program
module _ (u : UnitData) where
  -- ---- at the start

  abbrev pub StartIsKnown : Type 0
  StartIsKnown = IsKnown u (no_storage u) (start false u)

  -- ---- parts of statements and declarations

  abbrev pub PlacesKeep : Type 0
  PlacesKeep = (line : Line) → Keeps u (checks (place line))

  abbrev pub ExpressionsKeep : Type 0
  ExpressionsKeep = (at : Place) (e : ExprData) → Keeps u (expr at e)

  abbrev pub TypesKeep : Type 0
  TypesKeep = (at : Place) (b : BaseData) → Keeps u (base at b)

  abbrev pub LengthsKeep : Type 0
  LengthsKeep = (at : Place) (ds : DimList) → Keeps u (lengths at ds)

  abbrev pub ConditionsKeep : Type 0
  ConditionsKeep = (at : Place) (e : ExprData) → Keeps u (condition at e)

  abbrev pub ValuesKeep : Type 0
  ValuesKeep = (at : Place) (e : ExprData) → Keeps u (alone at e)

  abbrev pub OptionsKeep : Type 0
  OptionsKeep = (at : Place) (e : Option ExprData) → Keeps u (optional at e)

  abbrev pub OptionalConditionsKeep : Type 0
  OptionalConditionsKeep = (at : Place) (e : Option ExprData) → Keeps u (optional_condition at e)

  abbrev pub ReturnsKeep : Type 0
  ReturnsKeep = (at : Place) (r : Option TyData) (e : Option ExprData) → Keeps u (return_by at r e)

  abbrev pub DeclarationsKeep : Type 0
  DeclarationsKeep = (global : Bool) (d : DeclData) → Keeps u (declaration global d)

  abbrev pub DeclaratorsKeep : Type 0
  DeclaratorsKeep = (at : Place) (global varchars : Bool) (t : Option TyData) (d : DeclaratorData)
      → Keeps u (object_item at global varchars t d)

  abbrev pub LabelsKeep : Type 0
  LabelsKeep = (at : Place) (l : Text) → Keeps u (checks (declare_label at l))

  -- ---- scopes

  abbrev pub EntersKeep : Type 0
  EntersKeep = Keeps u (checks enter)

  abbrev pub LeavesKeep : Type 0
  LeavesKeep = Keeps u (checks leave)

  -- ---- functions

  abbrev pub ResultsKeep : Type 0
  ResultsKeep = (at : Place) (t : Option TyData) → Keeps u (checks (result_rule at t))

  abbrev pub BeginningsKeep : Type 0
  BeginningsKeep = (name : Text) (k : ℕ) (done : Bool) (r : Option TyData)
      → is_among k (functions_of u) ≡ true
      → Keeps u (checks (begin_function name (function k done r None)))

  abbrev pub NumbersKeep : Type 0
  NumbersKeep = (t : TyData)
      → Keeps u (checks (number_as t) >> arrange (with_site nowhere))

  abbrev pub ParametersKeep : Type 0
  ParametersKeep = (at : Place) (defined : Bool) (ps : List ParamData)
      → Keeps u (params at defined ps)

  abbrev pub KnownFunctionsKeep : Type 0
  KnownFunctionsKeep = (name : Text) (k : ℕ) (done : Bool) (r : Option TyData)
      (ps : Option (List (Option TyData))) → is_among k (functions_of u) ≡ true
      → Keeps u (checks (know_function name (function k done r ps)))

  abbrev pub NewLabelsKeep : Type 0
  NewLabelsKeep = Keeps u (checks (change (λ w. record w { labels = [] })))

  -- ---- embedded statements

  abbrev pub ReferencesKeep : Type 0
  ReferencesKeep = (at : Place) (rs : References) → Keeps u (references_rule at rs)

  abbrev pub HandlersKeep : Type 0
  HandlersKeep = (es : List EmbData) (labels : Named (Unit {0})) (at : Place) (e : EmbData)
      → Keeps u (handlers_rule es labels at e)

  abbrev pub EmbeddedStatementsKeep : Type 0
  EmbeddedStatementsKeep = (es : List EmbData) (labels : Named (Unit {0})) (at : Place) (n : ℕ)
      (e : EmbData) → Keeps u (embedded_rule es labels at n e)

-- ---- together

-- what is taken of the walk through a source
pub record WalkKeeps (u : UnitData) : Type 0 where
  pub start : StartIsKnown u
  pub places : PlacesKeep u
  pub expressions : ExpressionsKeep u
  pub types : TypesKeep u
  pub lengths : LengthsKeep u
  pub conditions : ConditionsKeep u
  pub values : ValuesKeep u
  pub options : OptionsKeep u
  pub optional_conditions : OptionalConditionsKeep u
  pub returns : ReturnsKeep u
  pub declarations : DeclarationsKeep u
  pub declarators : DeclaratorsKeep u
  pub labels : LabelsKeep u
  pub enters : EntersKeep u
  pub leaves : LeavesKeep u
  pub results : ResultsKeep u
  pub beginnings : BeginningsKeep u
  pub numbers : NumbersKeep u
  pub parameters : ParametersKeep u
  pub known_functions : KnownFunctionsKeep u
  pub new_labels : NewLabelsKeep u
  pub references : ReferencesKeep u
  pub handlers : HandlersKeep u
  pub embedded : EmbeddedStatementsKeep u
  -- which declarations are still to come
  pub starts_before_all : StartsBeforeAll
  pub items_are_passed : ItemsArePassed
  pub functions_are_numbered : FunctionsAreNumbered
  pub types_declare_none : TypesDeclareNone
