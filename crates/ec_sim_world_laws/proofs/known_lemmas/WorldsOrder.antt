-- Structs stay closed in their order by parts of declarations, functions and embedded statements.
use Rattle.std.proofs.Common.{ℕ, Bool, true, false, List, [], ◌∷◌, refl, Option, Some, None}
use Rattle.ec_ctypes.specs.trees.Types.{TyData}
use Rattle.ec_ctypes.specs.trees.Exprs.{ExprData, DimList, InitOption, no_init, some_init, DeclaratorData, declarator}
use Rattle.ec_ctypes.specs.trees.Units.{ParamData}
use Rattle.ec_language.specs.Letters.{Text}
use Rattle.ec_typing_defs.specs.statement_parts.References.{References}
use Rattle.ec_typing_defs.specs.Worlds.{Place, EntryData, change}
use Rattle.ec_typing_defs.specs.Embedded.{reference_rule, members_rule, references_rule, denote}
use Rattle.ec_typing_defs.specs.Expressions.{has_init}
use Rattle.ec_typing_defs.specs.Statements.{object_rule, initial, object_type, object_item}
use Rattle.ec_typing_defs.specs.Programs.{result_rule, plain_param, array_param, param_type, declare_param, param, params, begin_function, know_function}
use Rattle.ec_sim_world_laws.proofs.closing_lemmas.Rules.{Keeping, chained, asked, pure_keeps, demand_keeps, keep_keeps, change_keeps, names_keep, chosen, declare_keeps, better_keeps, number_keeps}
use Rattle.ec_sim_world_laws.proofs.closing_lemmas.Operands.{elements_keeps, within_keeps, complete_keeps}
use Rattle.ec_sim_world_laws.proofs.closing_lemmas.Expressions.{varchar_object_keeps, expr_keeps, base_keeps, lengths_keep, last_keeps, outer_keep}
use Rattle.ec_sim_world_laws.proofs.closing_lemmas.Initializers.{initializer_keeps}

-- ---- declarations

object_keeps : (at : Place) (has : Bool) (t : Option TyData) → Keeping (object_rule at has t)
unfolding object_rule
object_keeps at has None = pure_keeps _
object_keeps at has (Some t) = asked _ _ (λ known. chosen _ (pure_keeps _) (complete_keeps at (Some t)))

initial_keeps : (at : Place) (global : Bool) (t : Option TyData) (i : InitOption) → Keeping (initial at global t i)
initial_keeps at global t no_init = pure_keeps _
initial_keeps at global t (some_init i) = initializer_keeps at global t i

object_type_keeps : (at : Place) (v : Bool) (t : Option TyData) (stars : ℕ) (name : Text) (ns : DimList) → Keeping (object_type at v t stars name ns)
object_type_keeps at false t stars name ns = chained (lengths_keep at ns) (λ sizes. chained (elements_keeps at t stars sizes) (λ a. pure_keeps _))
object_type_keeps at true t stars name ns = chained (last_keeps at ns) (λ n. chained (varchar_object_keeps at name n) (λ own. chained (outer_keep at ns) (λ sizes. chained (elements_keeps at own stars sizes) (λ a. pure_keeps _))))

pub item_keeps : (at : Place) (global v : Bool) (t : Option TyData) (d : DeclaratorData) → Keeping (object_item at global v t d)
item_keeps at global v t (declarator stars name ns init) =
    chained (object_type_keeps at v t stars name ns) (λ whole. chained (within_keeps at whole) (λ a. chained (object_keeps at (has_init init) whole) (λ before. asked _ _ (λ known. chained (declare_keeps at name _) (λ b.
    chained (initial_keeps at global before init) (λ ty. chained (within_keeps at ty) (λ d. chained (better_keeps name _) (λ e. number_keeps _))))))))

-- ---- functions

pub result_keeps : (at : Place) (t : Option TyData) → Keeping (result_rule at t)
unfolding result_rule
result_keeps at t = chained (demand_keeps _ _ _) (λ a. pure_keeps _)

plain_keeps : (at : Place) (t : Option TyData) → Keeping (plain_param at t)
unfolding plain_param
plain_keeps at t = chained (demand_keeps _ _ _) (λ a. pure_keeps _)

array_keeps : (at : Place) (t : Option TyData) → Keeping (array_param at t)
array_keeps at t = chained (within_keeps at t) (λ a. chained (complete_keeps at t) (λ b. pure_keeps _))

type_keeps : (at : Place) (t : Option TyData) (stars : ℕ) (ns : List (Option ℕ)) → Keeping (param_type at t stars ns)
type_keeps at t stars [] = plain_keeps at _
type_keeps at t stars (n ∷ ns) = array_keeps at _

declare_param_keeps : (at : Place) (defined : Bool) (name : Option Text) (k : ℕ) (t : Option TyData) → Keeping (declare_param at defined name k t)
declare_param_keeps at defined None k t = demand_keeps _ _ _
declare_param_keeps at defined (Some name) k t = declare_keeps at name _

param_keeps : (at : Place) (defined : Bool) (q : ParamData) → Keeping (param at defined q)
param_keeps at defined q =
    chained (base_keeps at q.base) (λ b. chained (lengths_keep at q.dims) (λ sizes. chained (elements_keeps at b q.stars sizes) (λ u. chained (type_keeps at b q.stars sizes) (λ t. asked _ _ (λ known. chained (declare_param_keeps at defined q.name _ t) (λ a. chained (number_keeps _) (λ e. pure_keeps _)))))))

pub params_keep : (at : Place) (defined : Bool) (qs : List ParamData) → Keeping (params at defined qs)
params_keep at defined [] = pure_keeps _
params_keep at defined (q ∷ qs) = chained (param_keeps at defined q) (λ t. chained (params_keep at defined qs) (λ ts. pure_keeps _))

pub begin_keeps : (name : Text) (entry : EntryData) → Keeping (begin_function name entry)
unfolding begin_function
begin_keeps name entry = names_keep _ (λ w. refl)

pub know_keeps : (name : Text) (entry : EntryData) → Keeping (know_function name entry)
unfolding know_function
know_keeps name entry = names_keep _ (λ w. refl)

pub new_labels_keep : Keeping (change (λ w. record w { labels = [] }))
new_labels_keep = names_keep _ (λ w. refl)

-- ---- embedded statements

reference_keeps : (at : Place) (e : ExprData) → Keeping (reference_rule at e)
unfolding reference_rule
reference_keeps at e = asked _ _ (λ known. chosen _ (pure_keeps _) (expr_keeps at e))

members_keeps : (at : Place) (is_host : Bool) (t : Option TyData) → Keeping (members_rule at is_host t)
unfolding members_rule
members_keeps at is_host t = asked _ _ (λ known. keep_keeps _ _ _)

pub references_keeps : (at : Place) (rs : References) → Keeping (references_rule at rs)
references_keeps at [] = pure_keeps _
references_keeps at (r ∷ rs) = chained (reference_keeps at r.value) (λ o. chained (members_keeps at r.is_host o.type) (λ a. references_keeps at rs))

pub denote_keeps : (names : List Text) → Keeping (denote names)
unfolding denote
denote_keeps names = change_keeps _ (λ w order. record { order = order; being = λ k e. e; among = λ k e. e })
