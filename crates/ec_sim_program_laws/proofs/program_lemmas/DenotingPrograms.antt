-- Nothing is denoted by functions and programs.
use Rattle.std.proofs.Common.{ℕ, Bool, List, [], ◌∷◌, refl, Option, Some, None}
use Rattle.ec_ctypes.specs.trees.Types.{TyData}
use Rattle.ec_ctypes.specs.trees.Units.{ParamData}
use Rattle.ec_language.specs.Letters.{Text}
use Rattle.ec_typing_defs.specs.Worlds.{Place, EntryData}
use Rattle.ec_typing_defs.specs.Programs.{result_rule, plain_param, array_param, param_type, declare_param, param, params, begin_function, know_function}
use Rattle.ec_sim_program_laws.proofs.program_lemmas.DenotingRules.{DenotesNone, chained, asked, pure_denotes, demand_denotes, changed, declare_denotes, number_denotes}
use Rattle.ec_sim_program_laws.proofs.program_lemmas.DenotingOperands.{elements_denotes, within_denotes, complete_denotes}
use Rattle.ec_sim_program_laws.proofs.program_lemmas.DenotingExpressions.{base_denotes, lengths_denote}

-- ---- parameters

pub result_denotes : (at : Place) (t : Option TyData) → DenotesNone (result_rule at t)
unfolding result_rule
result_denotes at t = chained (demand_denotes _ _ _) (λ a. pure_denotes _)

plain_denotes : (at : Place) (t : Option TyData) → DenotesNone (plain_param at t)
unfolding plain_param
plain_denotes at t = chained (demand_denotes _ _ _) (λ a. pure_denotes _)

array_denotes : (at : Place) (t : Option TyData) → DenotesNone (array_param at t)
array_denotes at t = chained (within_denotes at t) (λ a. chained (complete_denotes at t) (λ b. pure_denotes _))

pub type_denotes : (at : Place) (t : Option TyData) (stars : ℕ) (ns : List (Option ℕ)) → DenotesNone (param_type at t stars ns)
type_denotes at t stars [] = plain_denotes at _
type_denotes at t stars (n ∷ ns) = array_denotes at _

declare_param_denotes : (at : Place) (defined : Bool) (name : Option Text) (k : ℕ) (t : Option TyData) → DenotesNone (declare_param at defined name k t)
declare_param_denotes at defined None k t = demand_denotes _ _ _
declare_param_denotes at defined (Some name) k t = declare_denotes at name _

param_denotes : (at : Place) (defined : Bool) (q : ParamData) → DenotesNone (param at defined q)
param_denotes at defined q =
    chained (base_denotes at q.base) (λ b. chained (lengths_denote at q.dims) (λ sizes. chained (elements_denotes at b q.stars sizes) (λ u. chained (type_denotes at b q.stars sizes) (λ t. asked _ _ (λ known. chained (declare_param_denotes at defined q.name _ t) (λ a. chained (number_denotes _) (λ e. pure_denotes _)))))))

pub params_denote : (at : Place) (defined : Bool) (qs : List ParamData) → DenotesNone (params at defined qs)
params_denote at defined [] = pure_denotes _
params_denote at defined (q ∷ qs) = chained (param_denotes at defined q) (λ t. chained (params_denote at defined qs) (λ ts. pure_denotes _))

-- ---- functions

pub begin_denotes : (name : Text) (entry : EntryData) → DenotesNone (begin_function name entry)
unfolding begin_function
begin_denotes name entry = changed _ (λ w. refl)

pub know_denotes : (name : Text) (entry : EntryData) → DenotesNone (know_function name entry)
unfolding know_function
know_denotes name entry = changed _ (λ w. refl)
