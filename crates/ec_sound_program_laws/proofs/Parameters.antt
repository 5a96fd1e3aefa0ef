-- The parameters of a function: their names are not reserved where nothing is wrong, and calls of the library in them are added to those so far.
use Rattle.std.proofs.Common.{◌≡◌, ◌∙◌, ℕ, Bool, false, List, [], ◌∷◌, Option, Some, None, sym, subst}
use Rattle.ec_ctypes.specs.trees.Types.{TyData}
use Rattle.ec_ctypes.specs.trees.Units.{ParamData}
use Rattle.ec_language.specs.Letters.{Text}
use Rattle.ec_typing_defs.specs.Worlds.{Place, object, World, Rule, number_as, change, chain as check_chain}
use Rattle.ec_typing_defs.specs.Programs as checked
use Rattle.ec_meaning_defs.specs.observed.Run.{IsFront}
use Rattle.ec_resolving_defs.specs.Expressions.{base, lengths}
use Rattle.ec_resolving_defs.specs.Programs.{param, params}
use Rattle.ec_resolving_defs.specs.Storage.{Storage, chain, pure, checks, ask, stored, arrange}
use Rattle.ec_sim_world_laws.proofs.growth_lemmas.Rules.{begins_itself, begins_further}
use Rattle.ec_sim_world_laws.proofs.known_lemmas.NamesRules as names
use Rattle.ec_sim_world_laws.proofs.known_lemmas.NamesRules.{Staying, demand_stays}
use Rattle.ec_sim_world_laws.proofs.known_lemmas.NamesOperands.{elements_stays}
use Rattle.ec_sim_world_laws.proofs.known_lemmas.NamesExpressions.{base_stays, lengths_stay}
use Rattle.ec_sim_world_laws.proofs.known_lemmas.NamesStatements.{param_type_stays}
use Rattle.ec_sim_program_laws.proofs.types_lemmas.Rules.{both_none}
use Rattle.ec_sound_expression_laws.proofs.Storing.{base_stores, lengths_store}
use Rattle.ec_sound_statement_laws.proofs.Names.{declared_world}
use Rattle.ec_sound_program_laws.specs.Standing.{Free}
use Rattle.ec_sound_program_laws.proofs.Declarations.{declared_free, free_with}
use Rattle.ec_sound_program_laws.proofs.Runs.{same_names}

-- ---- names

-- where nothing is wrong by the rule, no name behind it is reserved
record Frees {A : Type 0} (m : Rule A) : Type 0 where
  frees : (w : World) → Free w → (m w).found ≡ [] → Free (m w).world

chained : {A B : Type 0} {m : Rule A} {f : A → Rule B} → Frees m → ((a : A) → Frees (f a)) → Frees (check_chain m f)
unfolding check_chain
chained {m = m} {f = f} h k = record {
  frees = λ w free found.
      let e = both_none (m w).found (f (m w).answer (m w).world).found found in
      (k (m w).answer).frees (m w).world (h.frees w free e.0) e.1;
}

stay : {A : Type 0} {m : Rule A} → Staying m → Frees m
stay {m = m} h = record { frees = λ w free found name entry is. free name entry (sym (same_names w (m w).world (h.stays w) name) ∙ is) }

declared : (at : Place) (defined : Bool) (name : Option Text) (k : ℕ) (t : Option TyData) → Frees (checked.declare_param at defined name k t)
declared at defined None k t = stay (demand_stays _ _ _)
declared at defined (Some name) k t = record {
  frees = λ w free found.
      let entry = object k false t in
      subst (λ v. Free v) (sym (declared_world at name entry w)) (free_with name entry w (declared_free at name entry w found) free);
}

numbered : (t : TyData) → Frees (number_as t)
unfolding number_as change
numbered t = record { frees = λ w free found. free }

param_frees : (at : Place) (defined : Bool) (q : ParamData) → Frees (checked.param at defined q)
param_frees at defined q =
    chained (stay (base_stays at q.base)) (λ b. chained (stay (lengths_stay at q.dims)) (λ sizes. chained (stay (elements_stays at b q.stars sizes)) (λ u.
    chained (stay (param_type_stays at b q.stars sizes)) (λ t. chained (stay (names.ask_stays _)) (λ k. chained (declared at defined q.name k t) (λ a. chained (numbered _) (λ c. stay (names.pure_stays _))))))))

params_free : (at : Place) (defined : Bool) (qs : List ParamData) → Frees (checked.params at defined qs)
params_free at defined [] = stay (names.pure_stays _)
params_free at defined (q ∷ qs) = chained (param_frees at defined q) (λ t. chained (params_free at defined qs) (λ ts. stay (names.pure_stays _)))

pub parameters_free : (at : Place) (defined : Bool) (qs : List ParamData) (w : World) → Free w → (checked.params at defined qs w).found ≡ [] → Free (checked.params at defined qs w).world
parameters_free at defined qs w free found = (params_free at defined qs).frees w free found

-- ---- calls of the library

param_calls : (at : Place) (defined : Bool) (q : ParamData) (s : Storage) (w : World) → IsFront s.calls (param at defined q s w).storage.calls
unfolding chain checks ask stored arrange pure
param_calls at defined q s w =
    let b = base at q.base s w in
    let ns = lengths at q.dims b.storage b.world in
    begins_further s.calls b.storage.calls ns.storage.calls ((base_stores at q.base).calls s w) ((lengths_store at q.dims).calls b.storage b.world)

pub params_calls : (at : Place) (defined : Bool) (qs : List ParamData) (s : Storage) (w : World) → IsFront s.calls (params at defined qs s w).storage.calls
unfolding chain pure
params_calls at defined [] s w = begins_itself s.calls
params_calls at defined (q ∷ qs) s w =
    let p = param at defined q s w in
    begins_further s.calls p.storage.calls (params at defined qs p.storage p.world).storage.calls (param_calls at defined q s w) (params_calls at defined qs p.storage p.world)
