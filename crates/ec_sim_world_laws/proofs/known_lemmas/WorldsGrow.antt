-- What is known grows by parts of declarations, functions and embedded statements.
use Rattle.std.proofs.Common.{ℕ, Bool, true, false, List, [], ◌∷◌, refl, Option, Some, None}
use Rattle.ec_ctypes.specs.trees.Types.{TyData}
use Rattle.ec_ctypes.specs.trees.Exprs.{ExprData, BaseData, words, varchar, tagged, struct_base, DimList, InitOption, no_init, some_init, DeclaratorData, declarator, DeclaratorList, no_declarators, declarators}
use Rattle.ec_ctypes.specs.trees.Units.{ParamData}
use Rattle.ec_language.specs.Letters.{Text}
use Rattle.ec_typing_defs.specs.statement_parts.References.{References}
use Rattle.ec_typing_defs.specs.Worlds.{Place, EntryData, unlisted, change}
use Rattle.ec_typing_defs.specs.Embedded.{reference_rule, members_rule, references_rule, denote}
use Rattle.ec_typing_defs.specs.Expressions.{has_init}
use Rattle.ec_typing_defs.specs.Statements.{object_rule, initial, object_type, object_item, declared_tag, tag_alone, specifier}
use Rattle.ec_typing_defs.specs.Programs.{result_rule, plain_param, array_param, param_type, declare_param, param, params, begin_function, know_function}
use Rattle.ec_sim_world_laws.proofs.growth_lemmas.Rules.{begins_itself, begins_joined, Growing, chained, asked, pure_grows, demand_grows, keep_grows, change_grows, names_grow, chosen, free_tag_grows, declare_grows, better_grows, number_grows}
use Rattle.ec_sim_world_laws.proofs.growth_lemmas.Operands.{elements_grows, within_grows, complete_grows}
use Rattle.ec_sim_world_laws.proofs.growth_lemmas.Expressions.{tagged_grows, varchar_object_grows, expr_grows, base_grows, lengths_grow, last_grows, outer_grow}
use Rattle.ec_sim_world_laws.proofs.growth_lemmas.Initializers.{initializer_grows}

-- ---- declarations

pub object_grows : (at : Place) (has : Bool) (t : Option TyData) → Growing (object_rule at has t)
unfolding object_rule
object_grows at has None = pure_grows _
object_grows at has (Some t) = asked _ _ (λ known. chosen _ (pure_grows _) (complete_grows at (Some t)))

pub initial_grows : (at : Place) (global : Bool) (t : Option TyData) (i : InitOption) → Growing (initial at global t i)
initial_grows at global t no_init = pure_grows _
initial_grows at global t (some_init i) = initializer_grows at global t i

pub type_grows : (at : Place) (v : Bool) (t : Option TyData) (stars : ℕ) (name : Text) (ns : DimList) → Growing (object_type at v t stars name ns)
type_grows at false t stars name ns = chained (lengths_grow at ns) (λ sizes. chained (elements_grows at t stars sizes) (λ a. pure_grows _))
type_grows at true t stars name ns = chained (last_grows at ns) (λ n. chained (varchar_object_grows at name n) (λ own. chained (outer_grow at ns) (λ sizes. chained (elements_grows at own stars sizes) (λ a. pure_grows _))))

pub item_grows : (at : Place) (global v : Bool) (t : Option TyData) (d : DeclaratorData) → Growing (object_item at global v t d)
item_grows at global v t (declarator stars name ns init) =
    chained (type_grows at v t stars name ns) (λ whole. chained (within_grows at whole) (λ a. chained (object_grows at (has_init init) whole) (λ before. asked _ _ (λ known. chained (declare_grows at name _) (λ b.
    chained (initial_grows at global before init) (λ ty. chained (within_grows at ty) (λ d. chained (better_grows name _) (λ e. number_grows _))))))))

declared_grows : (tag : Text) (k : Option ℕ) → Growing (declared_tag tag k)
declared_grows tag None = chained (tagged_grows tag unlisted) (λ a. pure_grows _)
declared_grows tag (Some k) = pure_grows _

alone_grows : (at : Place) (tag : Text) → Growing (tag_alone at tag)
unfolding tag_alone
alone_grows at tag = chained (free_tag_grows at tag) (λ a. asked _ _ (λ known. declared_grows tag _))

pub specifier_grows : (at : Place) (b : BaseData) (ds : DeclaratorList) → Growing (specifier at b ds)
specifier_grows at (tagged tag) no_declarators = alone_grows at tag
specifier_grows at (tagged tag) (declarators d ds) = base_grows at (tagged tag)
specifier_grows at (words ws) ds = base_grows at (words ws)
specifier_grows at varchar ds = base_grows at varchar
specifier_grows at (struct_base t ms) ds = base_grows at (struct_base t ms)

-- ---- functions

pub result_grows : (at : Place) (t : Option TyData) → Growing (result_rule at t)
unfolding result_rule
result_grows at t = chained (demand_grows _ _ _) (λ a. pure_grows _)

plain_grows : (at : Place) (t : Option TyData) → Growing (plain_param at t)
unfolding plain_param
plain_grows at t = chained (demand_grows _ _ _) (λ a. pure_grows _)

array_grows : (at : Place) (t : Option TyData) → Growing (array_param at t)
array_grows at t = chained (within_grows at t) (λ a. chained (complete_grows at t) (λ b. pure_grows _))

pub param_type_grows : (at : Place) (t : Option TyData) (stars : ℕ) (ns : List (Option ℕ)) → Growing (param_type at t stars ns)
param_type_grows at t stars [] = plain_grows at _
param_type_grows at t stars (n ∷ ns) = array_grows at _

pub declare_param_grows : (at : Place) (defined : Bool) (name : Option Text) (k : ℕ) (t : Option TyData) → Growing (declare_param at defined name k t)
declare_param_grows at defined None k t = demand_grows _ _ _
declare_param_grows at defined (Some name) k t = declare_grows at name _

param_grows : (at : Place) (defined : Bool) (q : ParamData) → Growing (param at defined q)
param_grows at defined q =
    chained (base_grows at q.base) (λ b. chained (lengths_grow at q.dims) (λ sizes. chained (elements_grows at b q.stars sizes) (λ u. chained (param_type_grows at b q.stars sizes) (λ t. asked _ _ (λ known. chained (declare_param_grows at defined q.name _ t) (λ a. chained (number_grows _) (λ e. pure_grows _)))))))

pub params_grow : (at : Place) (defined : Bool) (qs : List ParamData) → Growing (params at defined qs)
params_grow at defined [] = pure_grows _
params_grow at defined (q ∷ qs) = chained (param_grows at defined q) (λ t. chained (params_grow at defined qs) (λ ts. pure_grows _))

pub begin_grows : (name : Text) (entry : EntryData) → Growing (begin_function name entry)
unfolding begin_function
begin_grows name entry = names_grow _ (λ w. refl)

pub know_grows : (name : Text) (entry : EntryData) → Growing (know_function name entry)
unfolding know_function
know_grows name entry = names_grow _ (λ w. refl)

pub new_labels_grow : Growing (change (λ w. record w { labels = [] }))
new_labels_grow = names_grow _ (λ w. refl)

-- ---- embedded statements

reference_grows : (at : Place) (e : ExprData) → Growing (reference_rule at e)
unfolding reference_rule
reference_grows at e = asked _ _ (λ known. chosen _ (pure_grows _) (expr_grows at e))

members_grows : (at : Place) (is_host : Bool) (t : Option TyData) → Growing (members_rule at is_host t)
unfolding members_rule
members_grows at is_host t = asked _ _ (λ known. keep_grows _ _ _)

pub references_grows : (at : Place) (rs : References) → Growing (references_rule at rs)
references_grows at [] = pure_grows _
references_grows at (r ∷ rs) = chained (reference_grows at r.value) (λ o. chained (members_grows at r.is_host o.type) (λ a. references_grows at rs))

pub denote_grows : (names : List Text) → Growing (denote names)
unfolding denote
denote_grows names = change_grows _ (λ w. record {
  written = refl;
  defined = refl;
  types = begins_itself w.types;
  denoted = begins_joined w.denoted _;
  closed = begins_itself w.closed;
  structs = λ k info e u. e;
})
