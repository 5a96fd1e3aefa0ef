-- Nothing is denoted by declarations and statements.
use Rattle.std.proofs.Common.{ℕ, Bool, true, false, Option, Some, None}
use Rattle.ec_ctypes.specs.trees.Types.{TyData}
use Rattle.ec_ctypes.specs.trees.Exprs.{ExprData, BaseData, words, varchar, tagged, struct_base, DimList, InitOption, no_init, some_init, DeclaratorData, declarator, DeclaratorList, no_declarators, declarators, DeclData, decl}
use Rattle.ec_language.specs.Letters.{Text}
use Rattle.ec_typing_defs.specs.Operands.{OperandData}
use Rattle.ec_typing_defs.specs.Worlds.{Place, unlisted}
use Rattle.ec_typing_defs.specs.Expressions.{is_varchar, has_init}
use Rattle.ec_typing_defs.specs.Statements.{object_rule, initial, object_type, object_item, object_items, declared_tag, tag_alone, specifier, declaration, condition_rule, condition, optional, optional_condition, return_rule, return_nothing, return_by}
use Rattle.ec_sim_program_laws.proofs.program_lemmas.DenotingRules.{DenotesNone, chained, asked, pure_denotes, demand_denotes, place_denotes, chosen, if_some, free_tag_denotes, declare_denotes, better_denotes, number_denotes}
use Rattle.ec_sim_program_laws.proofs.program_lemmas.DenotingOperands.{elements_denotes, within_denotes, complete_denotes}
use Rattle.ec_sim_program_laws.proofs.program_lemmas.DenotingExpressions.{tagged_denotes, varchar_object_denotes, valued, expr_denotes, base_denotes, lengths_denote, last_denotes, outer_denote}
use Rattle.ec_sim_program_laws.proofs.program_lemmas.DenotingInitializers.{initializer_denotes}

-- ---- declarations

pub object_denotes : (at : Place) (has : Bool) (t : Option TyData) → DenotesNone (object_rule at has t)
unfolding object_rule
object_denotes at has None = pure_denotes _
object_denotes at has (Some t) = asked _ _ (λ known. chosen _ (pure_denotes _) (complete_denotes at (Some t)))

pub initial_denotes : (at : Place) (global : Bool) (t : Option TyData) (i : InitOption) → DenotesNone (initial at global t i)
initial_denotes at global t no_init = pure_denotes _
initial_denotes at global t (some_init i) = initializer_denotes at global t i

pub type_denotes : (at : Place) (v : Bool) (t : Option TyData) (stars : ℕ) (name : Text) (ns : DimList) → DenotesNone (object_type at v t stars name ns)
type_denotes at false t stars name ns = chained (lengths_denote at ns) (λ sizes. chained (elements_denotes at t stars sizes) (λ a. pure_denotes _))
type_denotes at true t stars name ns = chained (last_denotes at ns) (λ n. chained (varchar_object_denotes at name n) (λ own. chained (outer_denote at ns) (λ sizes. chained (elements_denotes at own stars sizes) (λ a. pure_denotes _))))

pub item_denotes : (at : Place) (global v : Bool) (t : Option TyData) (d : DeclaratorData) → DenotesNone (object_item at global v t d)
item_denotes at global v t (declarator stars name ns init) =
    chained (type_denotes at v t stars name ns) (λ whole. chained (within_denotes at whole) (λ a. chained (object_denotes at (has_init init) whole) (λ before. asked _ _ (λ known. chained (declare_denotes at name _) (λ b.
    chained (initial_denotes at global before init) (λ ty. chained (within_denotes at ty) (λ d. chained (better_denotes name _) (λ e. number_denotes _))))))))

pub items_denote : (at : Place) (global v : Bool) (t : Option TyData) (ds : DeclaratorList) → DenotesNone (object_items at global v t ds)
items_denote at global v t no_declarators = pure_denotes _
items_denote at global v t (declarators d ds) = chained (item_denotes at global v t d) (λ a. items_denote at global v t ds)

declared_denotes : (tag : Text) (k : Option ℕ) → DenotesNone (declared_tag tag k)
declared_denotes tag None = chained (tagged_denotes tag unlisted) (λ a. pure_denotes _)
declared_denotes tag (Some k) = pure_denotes _

alone_denotes : (at : Place) (tag : Text) → DenotesNone (tag_alone at tag)
unfolding tag_alone
alone_denotes at tag = chained (free_tag_denotes at tag) (λ a. asked _ _ (λ known. declared_denotes tag _))

pub specifier_denotes : (at : Place) (b : BaseData) (ds : DeclaratorList) → DenotesNone (specifier at b ds)
specifier_denotes at (tagged tag) no_declarators = alone_denotes at tag
specifier_denotes at (tagged tag) (declarators d ds) = base_denotes at (tagged tag)
specifier_denotes at (words ws) ds = base_denotes at (words ws)
specifier_denotes at varchar ds = base_denotes at varchar
specifier_denotes at (struct_base t ms) ds = base_denotes at (struct_base t ms)

pub declaration_denotes : (global : Bool) (d : DeclData) → DenotesNone (declaration global d)
declaration_denotes global (decl b items section line) = chained (place_denotes line) (λ at. chained (specifier_denotes at b items) (λ t. items_denote at global (is_varchar b) t items))

-- ---- statements

scalar_denotes : (at : Place) (o : OperandData) → DenotesNone (condition_rule at o)
unfolding condition_rule
scalar_denotes at o = if_some o.type (pure_denotes _) (λ t. demand_denotes _ _ _)

pub condition_denotes : (at : Place) (e : ExprData) → DenotesNone (condition at e)
condition_denotes at e = chained (valued at (expr_denotes at e)) (λ o. scalar_denotes at o)

pub optional_denotes : (at : Place) (e : Option ExprData) → DenotesNone (optional at e)
optional_denotes at None = pure_denotes _
optional_denotes at (Some e) = chained (expr_denotes at e) (λ o. pure_denotes _)

pub optional_condition_denotes : (at : Place) (e : Option ExprData) → DenotesNone (optional_condition at e)
optional_condition_denotes at None = pure_denotes _
optional_condition_denotes at (Some e) = condition_denotes at e

value_denotes : (at : Place) (r : Option TyData) (o : OperandData) → DenotesNone (return_rule at r o)
unfolding return_rule
value_denotes at None o = pure_denotes _
value_denotes at (Some s) o = if_some o.type (pure_denotes _) (λ t. demand_denotes _ _ _)

nothing_denotes : (at : Place) (r : Option TyData) → DenotesNone (return_nothing at r)
unfolding return_nothing
nothing_denotes at None = pure_denotes _
nothing_denotes at (Some s) = demand_denotes _ _ _

pub return_denotes : (at : Place) (r : Option TyData) (e : Option ExprData) → DenotesNone (return_by at r e)
return_denotes at r None = nothing_denotes at r
return_denotes at r (Some e) = chained (valued at (expr_denotes at e)) (λ o. value_denotes at r o)
