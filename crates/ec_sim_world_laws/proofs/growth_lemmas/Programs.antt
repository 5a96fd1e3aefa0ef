-- What is known grows by functions and programs.
use Rattle.std.proofs.Common.{ℕ, Bool, true, false, List, [], ◌∷◌, refl, Option, Some, None}
use Rattle.std.specs.Prelude.{slice_get, is_some}
use Rattle.ec_ctypes.specs.trees.Types.{TyData}
use Rattle.ec_ctypes.specs.trees.Stmts.{StmtList}
use Rattle.ec_ctypes.specs.trees.Embedded.{EmbData}
use Rattle.ec_ctypes.specs.trees.Units.{ParamData, FuncData, TopData, include_top, directive_top, decl_top, func_top, mark_top}
use Rattle.ec_language.specs.Letters.{Text}
use Rattle.ec_typing_defs.specs.Worlds.{Place, EntryData}
use Rattle.ec_typing_defs.specs.Programs.{result_rule, plain_param, array_param, param_type, declare_param, param, params, begin_function, know_function, body_rule, function_rule, directive_rule, top_rule, tops_rule}
use Rattle.ec_sim_world_laws.proofs.growth_lemmas.Rules.{Growing, chained, asked, pure_grows, demand_grows, names_grow, place_grows, enter_grows, leave_grows, free_name_grows, declare_grows, number_grows}
use Rattle.ec_sim_world_laws.proofs.growth_lemmas.Operands.{elements_grows, within_grows, complete_grows}
use Rattle.ec_sim_world_laws.proofs.growth_lemmas.Expressions.{base_grows, lengths_grow}
use Rattle.ec_sim_world_laws.proofs.growth_lemmas.EmbeddedRules.{embedded_grows}
use Rattle.ec_sim_world_laws.proofs.growth_lemmas.Statements.{declaration_grows, statements_grow}

-- ---- parameters

result_grows : (at : Place) (t : Option TyData) → Growing (result_rule at t)
unfolding result_rule
result_grows at t = chained (demand_grows _ _ _) (λ a. pure_grows _)

plain_grows : (at : Place) (t : Option TyData) → Growing (plain_param at t)
unfolding plain_param
plain_grows at t = chained (demand_grows _ _ _) (λ a. pure_grows _)

array_grows : (at : Place) (t : Option TyData) → Growing (array_param at t)
array_grows at t = chained (within_grows at t) (λ a. chained (complete_grows at t) (λ b. pure_grows _))

type_grows : (at : Place) (t : Option TyData) (stars : ℕ) (ns : List (Option ℕ)) → Growing (param_type at t stars ns)
type_grows at t stars [] = plain_grows at _
type_grows at t stars (n ∷ ns) = array_grows at _

declare_param_grows : (at : Place) (defined : Bool) (name : Option Text) (k : ℕ) (t : Option TyData) → Growing (declare_param at defined name k t)
declare_param_grows at defined None k t = demand_grows _ _ _
declare_param_grows at defined (Some name) k t = declare_grows at name _

param_grows : (at : Place) (defined : Bool) (q : ParamData) → Growing (param at defined q)
param_grows at defined q =
    chained (base_grows at q.base) (λ b. chained (lengths_grow at q.dims) (λ sizes. chained (elements_grows at b q.stars sizes) (λ u. chained (type_grows at b q.stars sizes) (λ t. asked _ _ (λ known. chained (declare_param_grows at defined q.name _ t) (λ a. chained (number_grows _) (λ e. pure_grows _)))))))

params_grow : (at : Place) (defined : Bool) (qs : List ParamData) → Growing (params at defined qs)
params_grow at defined [] = pure_grows _
params_grow at defined (q ∷ qs) = chained (param_grows at defined q) (λ t. chained (params_grow at defined qs) (λ ts. pure_grows _))

-- ---- functions

begin_grows : (name : Text) (entry : EntryData) → Growing (begin_function name entry)
unfolding begin_function
begin_grows name entry = names_grow _ (λ w. refl)

know_grows : (name : Text) (entry : EntryData) → Growing (know_function name entry)
unfolding know_function
know_grows name entry = names_grow _ (λ w. refl)

body_grows : (es : List EmbData) (r : Option TyData) (b : Option StmtList) → Growing (body_rule es r b)
body_grows es r None = pure_grows _
body_grows es r (Some ss) = chained (names_grow _ (λ w. refl)) (λ a. statements_grow _ ss)

pub function_grows : (es : List EmbData) (f : FuncData) → Growing (function_rule es f)
function_grows es f =
    chained (place_grows f.line) (λ at. chained (base_grows at f.base) (λ b. chained (result_grows at _) (λ r. asked _ _ (λ known. asked _ _ (λ before. chained (begin_grows f.name _) (λ a2. chained (free_name_grows at f.name) (λ a3.
    chained (number_grows _) (λ a4. chained enter_grows (λ a5. chained (params_grow at (is_some f.body) f.params) (λ ps. chained (know_grows f.name _) (λ a6. chained (demand_grows _ _ _) (λ a7.
    chained (body_grows es r f.body) (λ a8. leave_grows)))))))))))))

-- ---- programs

directive_grows : (es : List EmbData) (n : ℕ) (e : Option EmbData) → Growing (directive_rule es n e)
directive_grows es n None = pure_grows _
directive_grows es n (Some e) = chained (place_grows e.line) (λ at. embedded_grows es false false [] at n e)

top_grows : (es : List EmbData) (t : TopData) → Growing (top_rule es t)
top_grows es (include_top bytes) = pure_grows _
top_grows es (directive_top n) = directive_grows es n (slice_get es n)
top_grows es (decl_top d) = declaration_grows true d
top_grows es (func_top f) = function_grows es f
top_grows es (mark_top opens line) = pure_grows _

pub tops_grow : (es : List EmbData) (ts : List TopData) → Growing (tops_rule es ts)
tops_grow es [] = pure_grows _
tops_grow es (t ∷ ts) = chained (top_grows es t) (λ a. tops_grow es ts)
