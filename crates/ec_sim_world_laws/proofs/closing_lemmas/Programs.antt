-- Structs stay closed in their order by functions and programs.
use Rattle.std.proofs.Common.{ℕ, Bool, true, false, List, [], ◌∷◌, refl, Option, Some, None}
use Rattle.std.specs.Prelude.{slice_get, is_some}
use Rattle.ec_ctypes.specs.trees.Types.{TyData}
use Rattle.ec_ctypes.specs.trees.Stmts.{StmtList}
use Rattle.ec_ctypes.specs.trees.Embedded.{EmbData}
use Rattle.ec_ctypes.specs.trees.Units.{ParamData, FuncData, TopData, include_top, directive_top, decl_top, func_top, mark_top, UnitData}
use Rattle.ec_language.specs.Letters.{Text}
use Rattle.ec_typing_defs.specs.Worlds.{Place, EntryData}
use Rattle.ec_typing_defs.specs.Programs.{result_rule, plain_param, array_param, param_type, declare_param, param, params, begin_function, know_function, body_rule, function_rule, directive_rule, top_rule, tops_rule, main_rule, unit_rule}
use Rattle.ec_sim_world_laws.proofs.closing_lemmas.Rules.{Keeping, chained, asked, pure_keeps, demand_keeps, names_keep, place_keeps, enter_keeps, leave_keeps, free_name_keeps, declare_keeps, number_keeps}
use Rattle.ec_sim_world_laws.proofs.closing_lemmas.Operands.{elements_keeps, within_keeps, complete_keeps}
use Rattle.ec_sim_world_laws.proofs.closing_lemmas.Expressions.{base_keeps, lengths_keep}
use Rattle.ec_sim_world_laws.proofs.closing_lemmas.EmbeddedRules.{embedded_keeps}
use Rattle.ec_sim_world_laws.proofs.closing_lemmas.Statements.{declaration_keeps, statements_keep}

-- ---- parameters

result_keeps : (at : Place) (t : Option TyData) → Keeping (result_rule at t)
unfolding result_rule
result_keeps at t = chained (demand_keeps _ _ _) (λ a. pure_keeps _)

plain_keeps : (at : Place) (t : Option TyData) → Keeping (plain_param at t)
unfolding plain_param
plain_keeps at t = chained (demand_keeps _ _ _) (λ a. pure_keeps _)

array_keeps : (at : Place) (t : Option TyData) → Keeping (array_param at t)
array_keeps at t = chained (within_keeps at t) (λ a. chained (complete_keeps at t) (λ b. pure_keeps _))

type_keeps : (at : Place) (t : Option TyData) (stars : ℕ) (ns : List (Option ℕ)) → Keeping (param_type at t stars ns)
type_keeps at t stars [] = plain_keeps at _
type_keeps at t stars (n ∷ ns) = array_keeps at _

declare_param_keeps : (at : Place) (defined : Bool) (name : Option Text) (k : ℕ) (t : Option TyData) → Keeping (declare_param at defined name k t)
declare_param_keeps at defined None k t = demand_keeps _ _ _
declare_param_keeps at defined (Some name) k t = declare_keeps at name _

param_keeps : (at : Place) (defined : Bool) (q : ParamData) → Keeping (param at defined q)
param_keeps at defined q =
    chained (base_keeps at q.base) (λ b. chained (lengths_keep at q.dims) (λ sizes. chained (elements_keeps at b q.stars sizes) (λ u. chained (type_keeps at b q.stars sizes) (λ t. asked _ _ (λ known. chained (declare_param_keeps at defined q.name _ t) (λ a. chained (number_keeps _) (λ e. pure_keeps _)))))))

params_keep : (at : Place) (defined : Bool) (qs : List ParamData) → Keeping (params at defined qs)
params_keep at defined [] = pure_keeps _
params_keep at defined (q ∷ qs) = chained (param_keeps at defined q) (λ t. chained (params_keep at defined qs) (λ ts. pure_keeps _))

-- ---- functions

begin_keeps : (name : Text) (entry : EntryData) → Keeping (begin_function name entry)
unfolding begin_function
begin_keeps name entry = names_keep _ (λ w. refl)

know_keeps : (name : Text) (entry : EntryData) → Keeping (know_function name entry)
unfolding know_function
know_keeps name entry = names_keep _ (λ w. refl)

body_keeps : (es : List EmbData) (r : Option TyData) (b : Option StmtList) → Keeping (body_rule es r b)
body_keeps es r None = pure_keeps _
body_keeps es r (Some ss) = chained (names_keep _ (λ w. refl)) (λ a. statements_keep _ ss)

pub function_keeps : (es : List EmbData) (f : FuncData) → Keeping (function_rule es f)
function_keeps es f =
    chained (place_keeps f.line) (λ at. chained (base_keeps at f.base) (λ b. chained (result_keeps at _) (λ r. asked _ _ (λ known. asked _ _ (λ before. chained (begin_keeps f.name _) (λ a2. chained (free_name_keeps at f.name) (λ a3.
    chained (number_keeps _) (λ a4. chained enter_keeps (λ a5. chained (params_keep at (is_some f.body) f.params) (λ ps. chained (know_keeps f.name _) (λ a6. chained (demand_keeps _ _ _) (λ a7.
    chained (body_keeps es r f.body) (λ a8. leave_keeps)))))))))))))

-- ---- programs

directive_keeps : (es : List EmbData) (n : ℕ) (e : Option EmbData) → Keeping (directive_rule es n e)
directive_keeps es n None = pure_keeps _
directive_keeps es n (Some e) = chained (place_keeps e.line) (λ at. embedded_keeps es false false [] at n e)

top_keeps : (es : List EmbData) (t : TopData) → Keeping (top_rule es t)
top_keeps es (include_top bytes) = pure_keeps _
top_keeps es (directive_top n) = directive_keeps es n (slice_get es n)
top_keeps es (decl_top d) = declaration_keeps true d
top_keeps es (func_top f) = function_keeps es f
top_keeps es (mark_top opens line) = pure_keeps _

pub tops_keep : (es : List EmbData) (ts : List TopData) → Keeping (tops_rule es ts)
tops_keep es [] = pure_keeps _
tops_keep es (t ∷ ts) = chained (top_keeps es t) (λ a. tops_keep es ts)

-- `main` stands in the program
main_keeps : (ts : List TopData) (at : Place) → Keeping (main_rule ts at)
unfolding main_rule
main_keeps ts at = demand_keeps _ _ _

pub unit_keeps : (u : UnitData) → Keeping (unit_rule u)
unit_keeps u = chained (tops_keep u.embs u.tops) (λ a. chained (place_keeps u.last) (λ at. main_keeps u.tops at))
