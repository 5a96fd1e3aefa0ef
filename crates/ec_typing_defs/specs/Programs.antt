-- What is found out about functions (ISO/IEC 9899:1999, 6.7.5.3, 6.9.1) and programs (6.9).
use Rattle.std.specs.Prelude.{ℕ, zero, Bool, true, false, not, ◌&&◌, ◌||◌, ◌==◌, List, [], ◌∷◌, ◌++◌, length, map, Option, Some, None, is_some, codes, slice_get, if◌then◌else◌}
use Rattle.ec_base.specs.declared.fault.FaultKind.TheVariants.{F10, F14, F20}
use Rattle.ec_ctypes.specs.trees.Types.{TyData, pointer, MemberData, StructData}
use Rattle.ec_ctypes.specs.trees.Exprs.{BaseData, words}
use Rattle.ec_ctypes.specs.trees.Stmts.{StmtList}
use Rattle.ec_ctypes.specs.trees.Embedded.{EmbData}
use Rattle.ec_ctypes.specs.trees.Units.{ParamData, FuncData, TopData, include_top, directive_top, decl_top, func_top, mark_top, UnitData}
use Rattle.ec_ctypes.specs.Layout.{struct_shape}
use Rattle.ec_ctypes.specs.SqlcaStructs.{sqlca_structs}
use Rattle.ec_language.specs.Letters.{Text, same_text}
use Rattle.ec_typing_defs.specs.Tables.{Named, find, put}
use Rattle.ec_typing_defs.specs.Types.{int_type, words_type, is_void, is_structure, same_type}
use Rattle.ec_typing_defs.specs.Worlds.{Place, EntryData, object, function, listed, StructInfo, ScopeData, World, no_names, Rule, ◌>>=◌, ◌>>◌, pure, ask, change, demand, enter, leave, declare, free_name, place, next_number, number_as}
use Rattle.ec_typing_defs.specs.Operands.{declared_type, elements_rule, within_rule, complete_rule}
use Rattle.ec_typing_defs.specs.Expressions.{Members, base, lengths, first_of_members, stands_for_all}
use Rattle.ec_typing_defs.specs.Embedded.{embedded_rule}
use Rattle.ec_typing_defs.specs.Statements.{type_or_void, declaration, statements, labels_in_all}

-- ---- parameters and results

abbrev pub kept : Option TyData → Bool → Option TyData
kept t true = t
kept t false = None

abbrev pub may_be_result : Option TyData → Bool
may_be_result None = true
may_be_result (Some t) = not (is_structure t)

abbrev pub may_be_param : Option TyData → Bool
may_be_param None = true
may_be_param (Some t) = not (is_structure t || is_void t)

-- A result is no struct by value, which ISO C would allow.
unfoldable pub result_rule : Place → Option TyData → Rule (Option TyData)
result_rule at t = demand at F14 (may_be_result t) >> pure (kept t (may_be_result t))

-- A parameter is no struct by value, which ISO C would allow, and not void.
unfoldable pub plain_param : Place → Option TyData → Rule (Option TyData)
plain_param at t = demand at F14 (may_be_param t) >> pure (kept t (may_be_param t))

abbrev pub pointer_to : Option TyData → Option TyData
pointer_to None = None
pointer_to (Some t) = Some (pointer t)

-- A parameter that is written as an array is a pointer to its elements, whose type is complete (6.7.5.2, 1; 6.7.5.3, 7).
abbrev pub array_param : Place → Option TyData → Rule (Option TyData)
array_param at element = do
  within_rule at element
  t ← complete_rule at element
  pure (pointer_to t)

-- its type, where these are the lengths behind its name
abbrev pub param_type : Place → Option TyData → ℕ → List (Option ℕ) → Rule (Option TyData)
param_type at t stars [] = plain_param at (declared_type t stars [])
param_type at t stars (n ∷ ns) = array_param at (declared_type t stars ns)

-- In a definition it has a name (6.9.1, 5).
abbrev pub declare_param : Place → Bool → Option Text → ℕ → Option TyData → Rule (Unit {0})
declare_param at defined None k t = demand at F14 (not defined)
declare_param at defined (Some name) k t = declare at name (object k false t)

abbrev pub param : Place → Bool → ParamData → Rule (Option TyData)
param at defined p = do
  b ← base at p.base
  sizes ← lengths at p.dims
  elements_rule at b p.stars sizes
  t ← param_type at b p.stars sizes
  k ← ask next_number
  declare_param at defined p.name k t
  number_as (type_or_void t)
  pure t

abbrev pub params : Place → Bool → List ParamData → Rule (List (Option TyData))
params at defined [] = pure []
params at defined (p ∷ ps) = do
  t ← param at defined p
  ts ← params at defined ps
  pure (t ∷ ts)

-- ---- functions

-- the same, as far as both are known
abbrev pub agrees : Option TyData → Option TyData → Bool
agrees (Some s) (Some t) = same_type s t
agrees _ _ = true

abbrev pub all_agree : List (Option TyData) → List (Option TyData) → Bool
all_agree [] [] = true
all_agree (s ∷ ss) (t ∷ ts) = agrees s t && all_agree ss ts
all_agree _ _ = false

abbrev pub are_known : List (Option TyData) → Bool
are_known [] = true
are_known (t ∷ ts) = is_some t && are_known ts

-- one type, or as many parameters where a type is missing
abbrev pub is_same_function : Option TyData →
    List (Option TyData) → Option TyData → List (Option TyData) → Bool
is_same_function r ps s qs =
    length ps == length qs
    && (not (is_some r && is_some s && are_known ps && are_known qs)
    || (agrees r s && all_agree ps qs))

-- A function may be declared again with the same type (6.7, 4), and is defined once (6.9, 5).
abbrev pub may_follow : Bool → Option TyData → List (Option TyData) → Option EntryData → Bool
may_follow defines r ps None = true
may_follow defines r ps (Some (object k global t)) = false
may_follow defines r ps (Some (function k done s None)) = not (done && defines)
may_follow defines r ps (Some (function k done s (Some qs))) =
    not (done && defines) && is_same_function r ps s qs

-- a definition stands so far
abbrev pub is_done : Option EntryData → Bool
is_done None = false
is_done (Some (object k global t)) = false
is_done (Some (function k done r ps)) = done

abbrev pub put_outside : Text → EntryData → List ScopeData → List ScopeData
put_outside name entry [] = []
put_outside name entry (s ∷ ss) = record { names = put name entry s.names; tags = s.tags } ∷ ss

-- The function's name stands for it in the scope round that of its parameters, before their names; the parameters are known behind their list.
unfoldable pub begin_function : Text → EntryData → Rule (Unit {0})
begin_function name entry = change
    (λ w. record w { here = record { names = put name entry w.here.names; tags = w.here.tags } })

unfoldable pub know_function : Text → EntryData → Rule (Unit {0})
know_function name entry = change (λ w. record w { outer = put_outside name entry w.outer })

abbrev pub body_rule : List EmbData → Option TyData → Option StmtList → Rule (Unit {0})
body_rule es r None = pure tt
body_rule es r (Some ss) =
    change (λ w. record w { labels = [] }) >> statements (record {
      embs = es;
      is_body = false;
      in_loop = false;
      labels = labels_in_all ss [];
      result = r;
    }) ss

-- A function is a place. Its parameters and its body are one scope (6.2.1, 4).
abbrev pub function_rule : List EmbData → FuncData → Rule (Unit {0})
function_rule es f = do
  at ← place f.line
  b ← base at f.base
  r ← result_rule at (declared_type b f.stars [])
  k ← ask next_number
  before ← ask (λ w. find f.name w.here.names)
  begin_function f.name (function k (is_done before || is_some f.body) r None)
  free_name at f.name
  number_as (type_or_void r)
  enter
  ps ← params at (is_some f.body) f.params
  know_function f.name (function k (is_done before || is_some f.body) r (Some ps))
  demand at F10 (may_follow (is_some f.body) r ps before)
  body_rule es r f.body
  leave

-- ---- programs

-- a directive outside of functions is a place
abbrev pub directive_rule : List EmbData → ℕ → Option EmbData → Rule (Unit {0})
directive_rule es n None = pure tt
directive_rule es n (Some e) = place e.line >>= (λ at. embedded_rule es false false [] at n e)

abbrev pub top_rule : List EmbData → TopData → Rule (Unit {0})
top_rule es (include_top bytes) = pure tt
top_rule es (directive_top n) = directive_rule es n (slice_get es n)
top_rule es (decl_top d) = declaration true d
top_rule es (func_top f) = function_rule es f
top_rule es (mark_top opens line) = pure tt

abbrev pub tops_rule : List EmbData → List TopData → Rule (Unit {0})
tops_rule es [] = pure tt
tops_rule es (t ∷ ts) = top_rule es t >> tops_rule es ts

abbrev pub with_defined : TopData → Named (Unit {0}) → Named (Unit {0})
with_defined (func_top f) ds = if is_some f.body then put f.name tt ds else ds
with_defined _ ds = ds

-- the functions that are defined
abbrev pub defined_in : List TopData → Named (Unit {0}) → Named (Unit {0})
defined_in [] ds = ds
defined_in (t ∷ ts) ds = defined_in ts (with_defined t ds)

abbrev pub is_int : BaseData → ℕ → Bool
is_int (words ws) zero = elim (words_type ws) [ None ↦ false | Some t ↦ same_type t int_type ]
is_int _ _ = false

abbrev pub has_no_params : List ParamData → Bool
has_no_params [] = true
has_no_params (p ∷ ps) = false

-- the definition of an `int main` without parameters (5.1.2.2.1)
abbrev pub is_main : FuncData → Bool
is_main f = same_text f.name (codes "main") && is_some f.body
    && is_int f.base f.stars && has_no_params f.params

abbrev pub has_main : List TopData → Bool
has_main [] = false
has_main (func_top f ∷ ts) = is_main f || has_main ts
has_main (t ∷ ts) = has_main ts

-- F20 stands at the end.
unfoldable pub main_rule : List TopData → Place → Rule (Unit {0})
main_rule ts at = demand at F20 (has_main ts)

abbrev pub unit_rule : UnitData → Rule (Unit {0})
unit_rule u = tops_rule u.embs u.tops >> (place u.last >>= main_rule u.tops)

-- ---- the start: the structs of sqlca are there (PostgreSQL manual, 34.8.2)

abbrev pub known_members : List MemberData → Members
known_members ms = map (λ m. (m.0, Some m.1)) ms

-- these structs, closed, behind those before them
abbrev pub known_structs : List StructInfo → List StructData → List StructInfo
known_structs before [] = before
known_structs before (d ∷ ds) = known_structs (before ++ record {
  tag = d.tag;
  varchar = false;
  members = listed (known_members d.members);
  shape = struct_shape (map (λ s. s.shape) before) d.members;
  first = first_of_members before (known_members d.members);
  stands_for = stands_for_all before (known_members d.members);
} ∷ []) ds

abbrev pub start : Bool → UnitData → World
start written u = record {
  written = written;
  here = no_names;
  outer = [];
  structs = known_structs [] sqlca_structs;
  closed = 0 ∷ 1 ∷ [];
  types = [];
  denoted = [];
  defined = defined_in u.tops [];
  labels = [];
  places = 0;
}
