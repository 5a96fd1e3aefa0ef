-- What is known grows by a declarator, by parameters, and by what begins a function.
use Rattle.std.proofs.Common.{ℕ, Bool, true, false, List, [], ◌∷◌, refl, Option, Some, None}
use Rattle.ec_ctypes.specs.trees.Exprs.{DimList, InitOption, no_init, some_init, DeclaratorData, declarator}
use Rattle.ec_ctypes.specs.trees.Types.{TyData}
use Rattle.ec_ctypes.specs.trees.Units.{ParamData}
use Rattle.ec_language.specs.Letters.{Text}
use Rattle.ec_typing_defs.specs.Embedded.{denote}
use Rattle.ec_typing_defs.specs.Expressions.{has_init}
use Rattle.ec_typing_defs.specs.Programs.{declare_param, param, params, begin_function, know_function}
use Rattle.ec_typing_defs.specs.Statements.{initial, object_type, object_item}
use Rattle.ec_typing_defs.specs.Worlds.{Place, EntryData}
use Rattle.ec_sim_world_laws.proofs.growth_lemmas.Rules.{begins_itself, begins_joined, Growing, chained, asked, pure_grows, demand_grows, change_grows, names_grow, declare_grows, better_grows, number_grows}
use Rattle.ec_sim_world_laws.proofs.growth_lemmas.Operands.{elements_grows, within_grows}
use Rattle.ec_sim_world_laws.proofs.growth_lemmas.Expressions.{varchar_object_grows, base_grows, lengths_grow, last_grows, outer_grow}
use Rattle.ec_sim_world_laws.proofs.growth_lemmas.Initializers.{initializer_grows}
use Rattle.ec_sim_world_laws.proofs.known_lemmas.SitesChecks.{object_idle, param_type_idle}
use Rattle.ec_sim_world_laws.proofs.known_lemmas.WalkRules.{idle_grows}

-- ---- declarators

initial_grows : (at : Place) (global : Bool) (t : Option TyData) (i : InitOption) → Growing (initial at global t i)
initial_grows at global t no_init = pure_grows _
initial_grows at global t (some_init i) = initializer_grows at global t i

type_grows : (at : Place) (v : Bool) (t : Option TyData) (stars : ℕ) (name : Text) (ns : DimList) → Growing (object_type at v t stars name ns)
type_grows at false t stars name ns = chained (lengths_grow at ns) (λ sizes. chained (elements_grows at t stars sizes) (λ a. pure_grows _))
type_grows at true t stars name ns = chained (last_grows at ns) (λ n. chained (varchar_object_grows at name n) (λ own. chained (outer_grow at ns) (λ sizes. chained (elements_grows at own stars sizes) (λ a. pure_grows _))))

pub item_grows : (at : Place) (global v : Bool) (t : Option TyData) (d : DeclaratorData) → Growing (object_item at global v t d)
item_grows at global v t (declarator stars name ns init) =
    chained (type_grows at v t stars name ns) (λ whole. chained (within_grows at whole) (λ a. chained (idle_grows (object_idle at (has_init init) whole)) (λ before. asked _ _ (λ known. chained (declare_grows at name _) (λ b.
    chained (initial_grows at global before init) (λ ty. chained (within_grows at ty) (λ d. chained (better_grows name _) (λ e. number_grows _))))))))

-- ---- parameters and functions

declare_param_grows : (at : Place) (defined : Bool) (name : Option Text) (k : ℕ) (t : Option TyData) → Growing (declare_param at defined name k t)
declare_param_grows at defined None k t = demand_grows _ _ _
declare_param_grows at defined (Some name) k t = declare_grows at name _

param_grows : (at : Place) (defined : Bool) (q : ParamData) → Growing (param at defined q)
param_grows at defined q =
    chained (base_grows at q.base) (λ b. chained (lengths_grow at q.dims) (λ sizes. chained (elements_grows at b q.stars sizes) (λ a. chained (idle_grows (param_type_idle at b q.stars sizes)) (λ t.
    asked _ _ (λ k. chained (declare_param_grows at defined q.name _ t) (λ c. chained (number_grows _) (λ d. pure_grows _)))))))

pub params_grow : (at : Place) (defined : Bool) (qs : List ParamData) → Growing (params at defined qs)
params_grow at defined [] = pure_grows _
params_grow at defined (q ∷ qs) = chained (param_grows at defined q) (λ t. chained (params_grow at defined qs) (λ ts. pure_grows _))

pub begin_grows : (name : Text) (entry : EntryData) → Growing (begin_function name entry)
unfolding begin_function
begin_grows name entry = names_grow _ (λ w. refl)

pub know_grows : (name : Text) (entry : EntryData) → Growing (know_function name entry)
unfolding know_function
know_grows name entry = names_grow _ (λ w. refl)

pub denote_grows : (names : List Text) → Growing (denote names)
unfolding denote
denote_grows names = change_grows _ (λ w. record {
  written = refl;
  defined = refl;
  types = begins_itself w.types;
  denoted = begins_joined w.denoted _;
  closed = begins_itself w.closed;
  structs = λ k info e a. e;
})
