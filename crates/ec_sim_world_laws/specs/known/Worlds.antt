-- What holds of what is known, by the rules of the checks alone.
use Rattle.std.specs.Prelude.{◌≡◌, ℕ, true, false, Bool, List, [], Option, None}
use Rattle.ec_base.specs.declared.line.Line.{Line}
use Rattle.ec_ctypes.specs.trees.Embedded.{EmbData}
use Rattle.ec_ctypes.specs.trees.Exprs.{ExprData, BaseData, DimList, DeclaratorData, DeclData}
use Rattle.ec_ctypes.specs.trees.Types.{TyData}
use Rattle.ec_ctypes.specs.trees.Units.{ParamData, UnitData}
use Rattle.ec_language.specs.Letters.{Text}
use Rattle.ec_host_defs.specs.Programs.{is_among}
use Rattle.ec_host_defs.specs.sections.Declared.{functions_of}
use Rattle.ec_typing_defs.specs.statement_parts.References.{References}
use Rattle.ec_typing_defs.specs.Tables.{Named}
use Rattle.ec_typing_defs.specs.Embedded.{references_rule, denote, handlers_rule, embedded_rule}
use Rattle.ec_typing_defs.specs.Expressions.{expr, base, lengths}
use Rattle.ec_typing_defs.specs.Programs.{start, result_rule, params, begin_function, know_function}
use Rattle.ec_typing_defs.specs.Statements.{object_item, declaration}
use Rattle.ec_typing_defs.specs.Worlds.{Place, function, World, Rule, place, change, enter, leave, declare_label, number_as}
use Rattle.ec_sim_world_laws.specs.growth.Growth.{Grows}
use Rattle.ec_sim_world_laws.specs.closing.Closing.{AreInTheirOrder}
use Rattle.ec_sim_world_laws.specs.known.Known.{AreEntries, InScopes}

-- what is known has grown from the start, structs are closed in their order, and names stand for what is declared
pub record IsKnownWorld (u : UnitData) (w : World) : Type 0 where
  pub grown : Grows (start false u) w
  pub in_order : AreInTheirOrder w
  pub here : AreEntries u w w.here.names
  pub outer : InScopes u w w.outer

abbrev pub KeepsWorld : UnitData → {A : Type 0} → Rule A → Type 0
KeepsWorld u rule = (w : World) → IsKnownWorld u w → IsKnownWorld u (rule w).world

-- by the rules that the walk looks at
pub record WorldsKeep (u : UnitData) : Type 0 where
  pub start : IsKnownWorld u (start false u)
  pub places : (line : Line) → KeepsWorld u (place line)
  pub expressions : (at : Place) (e : ExprData) → KeepsWorld u (expr at e)
  pub types : (at : Place) (b : BaseData) → KeepsWorld u (base at b)
  pub lengths : (at : Place) (ds : DimList) → KeepsWorld u (lengths at ds)
  pub declarations : (global : Bool) (d : DeclData) → KeepsWorld u (declaration global d)
  pub declarators : (at : Place) (global varchars : Bool) (t : Option TyData) (d : DeclaratorData)
      → KeepsWorld u (object_item at global varchars t d)
  pub labels : (at : Place) (l : Text) → KeepsWorld u (declare_label at l)
  pub enters : KeepsWorld u enter
  pub leaves : KeepsWorld u leave
  pub results : (at : Place) (t : Option TyData) → KeepsWorld u (result_rule at t)
  pub beginnings : (name : Text) (k : ℕ) (done : Bool) (r : Option TyData)
      → is_among k (functions_of u) ≡ true
      → KeepsWorld u (begin_function name (function k done r None))
  pub numbers : (t : TyData) → KeepsWorld u (number_as t)
  pub parameters : (at : Place) (defined : Bool) (ps : List ParamData)
      → KeepsWorld u (params at defined ps)
  pub known_functions : (name : Text) (k : ℕ) (done : Bool) (r : Option TyData)
      (ps : Option (List (Option TyData))) → is_among k (functions_of u) ≡ true
      → KeepsWorld u (know_function name (function k done r ps))
  pub new_labels : KeepsWorld u (change (λ w. record w { labels = [] }))
  pub references : (at : Place) (rs : References) → KeepsWorld u (references_rule at rs)
  pub denoted : (names : List Text) → KeepsWorld u (denote names)
  pub handlers : (es : List EmbData) (in_loop : Bool) (labels : Named (Unit {0})) (at : Place)
      (e : EmbData) → KeepsWorld u (handlers_rule es in_loop labels at e)
  pub embedded : (es : List EmbData) (is_body in_loop : Bool) (labels : Named (Unit {0}))
      (at : Place) (n : ℕ) (e : EmbData)
      → KeepsWorld u (embedded_rule es is_body in_loop labels at n e)
