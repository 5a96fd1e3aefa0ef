-- Names and declarations stay as they are by the parts of declarations and statements.
use Rattle.std.proofs.Common.{ℕ, Bool, true, false, List, [], ◌∷◌, Option, Some, None, refl}
use Rattle.ec_ctypes.specs.trees.Types.{TyData}
use Rattle.ec_ctypes.specs.trees.Exprs.{ExprData, BaseData, words, varchar, tagged, struct_base, DimList, InitOption, no_init, some_init, DeclaratorList, no_declarators, declarators}
use Rattle.ec_language.specs.Letters.{Text}
use Rattle.ec_typing_defs.specs.Operands.{OperandData}
use Rattle.ec_typing_defs.specs.Worlds.{Place, unlisted, change}
use Rattle.ec_typing_defs.specs.Statements.{object_rule, initial, object_type, declared_tag, tag_alone, specifier, condition_rule, condition, optional, optional_condition, return_rule, return_nothing, return_by}
use Rattle.ec_typing_defs.specs.Programs.{result_rule, plain_param, array_param, param_type}
use Rattle.ec_sim_world_laws.proofs.known_lemmas.NamesRules.{Staying, chained, asked, pure_stays, demand_stays, changed, chosen, if_some, free_tag_stays}
use Rattle.ec_sim_world_laws.proofs.known_lemmas.NamesOperands.{elements_stays, within_stays, complete_stays}
use Rattle.ec_sim_world_laws.proofs.known_lemmas.NamesExpressions.{tagged_stays, varchar_object_stays, valued, expr_stays, base_stays, lengths_stay, last_stays, outer_stay}
use Rattle.ec_sim_world_laws.proofs.known_lemmas.NamesInitializers.{initializer_stays}

-- ---- declarations

pub object_stays : (at : Place) (has : Bool) (t : Option TyData) → Staying (object_rule at has t)
unfolding object_rule
object_stays at has None = pure_stays _
object_stays at has (Some t) = asked _ _ (λ known. chosen _ (pure_stays _) (complete_stays at (Some t)))

pub initial_stays : (at : Place) (global : Bool) (t : Option TyData) (i : InitOption) → Staying (initial at global t i)
initial_stays at global t no_init = pure_stays _
initial_stays at global t (some_init i) = initializer_stays at global t i

pub type_stays : (at : Place) (v : Bool) (t : Option TyData) (stars : ℕ) (name : Text) (ns : DimList) → Staying (object_type at v t stars name ns)
type_stays at false t stars name ns = chained (lengths_stay at ns) (λ sizes. chained (elements_stays at t stars sizes) (λ a. pure_stays _))
type_stays at true t stars name ns = chained (last_stays at ns) (λ n. chained (varchar_object_stays at name n) (λ own. chained (outer_stay at ns) (λ sizes. chained (elements_stays at own stars sizes) (λ a. pure_stays _))))

declared_stays : (tag : Text) (k : Option ℕ) → Staying (declared_tag tag k)
declared_stays tag None = chained (tagged_stays tag unlisted) (λ a. pure_stays _)
declared_stays tag (Some k) = pure_stays _

alone_stays : (at : Place) (tag : Text) → Staying (tag_alone at tag)
unfolding tag_alone
alone_stays at tag = chained (free_tag_stays at tag) (λ a. asked _ _ (λ known. declared_stays tag _))

pub specifier_stays : (at : Place) (b : BaseData) (ds : DeclaratorList) → Staying (specifier at b ds)
specifier_stays at (tagged tag) no_declarators = alone_stays at tag
specifier_stays at (tagged tag) (declarators d ds) = base_stays at (tagged tag)
specifier_stays at (words ws) ds = base_stays at (words ws)
specifier_stays at varchar ds = base_stays at varchar
specifier_stays at (struct_base t ms) ds = base_stays at (struct_base t ms)

-- ---- statements

scalar_stays : (at : Place) (o : OperandData) → Staying (condition_rule at o)
unfolding condition_rule
scalar_stays at o = if_some o.type (pure_stays _) (λ t. demand_stays _ _ _)

pub condition_stays : (at : Place) (e : ExprData) → Staying (condition at e)
condition_stays at e = chained (valued at (expr_stays at e)) (λ o. scalar_stays at o)

pub optional_stays : (at : Place) (e : Option ExprData) → Staying (optional at e)
optional_stays at None = pure_stays _
optional_stays at (Some e) = chained (expr_stays at e) (λ o. pure_stays _)

pub optional_condition_stays : (at : Place) (e : Option ExprData) → Staying (optional_condition at e)
optional_condition_stays at None = pure_stays _
optional_condition_stays at (Some e) = condition_stays at e

value_stays : (at : Place) (r : Option TyData) (o : OperandData) → Staying (return_rule at r o)
unfolding return_rule
value_stays at None o = pure_stays _
value_stays at (Some s) o = if_some o.type (pure_stays _) (λ t. demand_stays _ _ _)

nothing_stays : (at : Place) (r : Option TyData) → Staying (return_nothing at r)
unfolding return_nothing
nothing_stays at None = pure_stays _
nothing_stays at (Some s) = demand_stays _ _ _

pub return_stays : (at : Place) (r : Option TyData) (e : Option ExprData) → Staying (return_by at r e)
return_stays at r None = nothing_stays at r
return_stays at r (Some e) = chained (valued at (expr_stays at e)) (λ o. value_stays at r o)

-- ---- functions

pub result_stays : (at : Place) (t : Option TyData) → Staying (result_rule at t)
unfolding result_rule
result_stays at t = chained (demand_stays _ _ _) (λ a. pure_stays _)

plain_stays : (at : Place) (t : Option TyData) → Staying (plain_param at t)
unfolding plain_param
plain_stays at t = chained (demand_stays _ _ _) (λ a. pure_stays _)

array_stays : (at : Place) (t : Option TyData) → Staying (array_param at t)
array_stays at t = chained (within_stays at t) (λ a. chained (complete_stays at t) (λ b. pure_stays _))

pub param_type_stays : (at : Place) (t : Option TyData) (stars : ℕ) (ns : List (Option ℕ)) → Staying (param_type at t stars ns)
param_type_stays at t stars [] = plain_stays at _
param_type_stays at t stars (n ∷ ns) = array_stays at _

pub new_labels_stay : Staying (change (λ w. record w { labels = [] }))
new_labels_stay = changed _ (λ w. refl) (λ w. refl) (λ w. refl)
