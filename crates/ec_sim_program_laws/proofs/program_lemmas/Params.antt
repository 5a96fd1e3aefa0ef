-- Parameters and results are alike.
use Rattle.std.proofs.Common.{◌≡◌, ℕ, Bool, false, not, List, [], ◌∷◌, length, map, Option, Some, None}
use Rattle.ec_base.specs.declared.fault.FaultKind.TheVariants.{F14}
use Rattle.ec_ctypes.specs.trees.Types.{TyData}
use Rattle.ec_ctypes.specs.trees.Stmts.{StmtKindData}
use Rattle.ec_ctypes.specs.trees.Units.{ParamData}
use Rattle.ec_language.specs.Letters.{Text}
use Rattle.ec_expansion_defs.specs.Statements.{written_param}
use Rattle.ec_typing_defs.specs.Known.{is_reserved}
use Rattle.ec_typing_defs.specs.Programs as programs
use Rattle.ec_typing_defs.specs.Programs.{put_outside, know_function, result_rule, plain_param, array_param, param_type, declare_param}
use Rattle.ec_typing_defs.specs.Statements.{type_or_void}
use Rattle.ec_typing_defs.specs.Worlds.{Place, EntryData, object, ScopeData, next_number}
use Rattle.ec_resolving_defs.specs.Agreement.{itself}
use Rattle.ec_resolving_defs.specs.Programs.{param, params}
use Rattle.ec_resolving_defs.specs.Storage.{next_site}
use Rattle.ec_sim_statement_laws.specs.expression.Worlds.{AllKeepReserved}
use Rattle.ec_sim_statement_laws.specs.expression.Alike.{IsAlike}
use Rattle.ec_sim_statement_laws.specs.expression.Laws.{TypesAreAlike, LengthsAreAlike}
use Rattle.ec_sim_statement_laws.specs.expression.Silent.{Nothing}
use Rattle.ec_sim_statement_laws.specs.expression.Rules.{CheckAlike, check_chain_alike, check_pure_alike, change_alike, demand_alike, chain_alike, pure_alike, checks_alike, ask_alike, ask_first, arrange_first, quiet_first}
use Rattle.ec_sim_statement_laws.specs.expression.Checks.{elements_quietly, within_limit_alike, complete_alike}
use Rattle.ec_sim_program_laws.specs.program.Shape.{ParamsHaveLengths}
use Rattle.ec_sim_program_laws.proofs.program_lemmas.Declaring.{stored_known, next_same, site_same, site_adds, object_same, object_adds, sized_same}
use Rattle.ec_sim_program_laws.proofs.program_lemmas.Names.{with_name_kept, declare_alike, number_alike}

pub result_alike : (at there : Place) (t : Option TyData) → CheckAlike (result_rule at t) (result_rule there t)
unfolding result_rule
result_alike at there t = check_chain_alike _ _ _ _ (demand_alike at there F14 _ _ (λ e. e)) (λ _. check_pure_alike _)

plain_alike : (at there : Place) (t : Option TyData) → CheckAlike (plain_param at t) (plain_param there t)
unfolding plain_param
plain_alike at there t = check_chain_alike _ _ _ _ (demand_alike at there F14 _ _ (λ e. e)) (λ _. check_pure_alike _)

array_alike : (at there : Place) (t : Option TyData) → CheckAlike (array_param at t) (array_param there t)
array_alike at there t = check_chain_alike _ _ _ _ (within_limit_alike at there t) (λ _. check_chain_alike _ _ _ _ (complete_alike at there t) (λ u. check_pure_alike _))

type_alike : (at there : Place) (t : Option TyData) (stars : ℕ) (ns : List (Option ℕ)) → CheckAlike (param_type at t stars ns) (param_type there t stars ns)
type_alike at there t stars [] = plain_alike at there _
type_alike at there t stars (n ∷ ns) = array_alike at there _

name_alike : (at there : Place) (defined : Bool) (name : Option Text) (k : ℕ) (t : Option TyData) → CheckAlike (declare_param at defined name k t) (declare_param there defined name k t)
name_alike at there defined None k t = demand_alike at there F14 (not defined) (not defined) (λ e. e)
name_alike at there defined (Some name) k t = declare_alike at there name (object k false t)

module _ (types : TypesAreAlike) (lengths_alike : LengthsAreAlike) (embedded : ℕ → Option StmtKindData) (n : ℕ) (at there : Place) (defined : Bool) where
  param_alike : (p : ParamData) (ps : List ParamData) → ParamsHaveLengths (p ∷ ps)
      → IsAlike Nothing itself (programs.param at defined p) (programs.param there defined (written_param embedded n p)) (param at defined p) (param there defined (written_param embedded n p))
  param_alike p ps h =
      chain_alike _ _ _ _ _ _ _ _ (types at there n p.base h.0) (λ b _.
      chain_alike _ _ _ _ _ _ _ _ (lengths_alike at there n p.dims h.1) (λ sizes _.
      quiet_first _ _ _ _ _ _ (elements_quietly at there b p.stars sizes)
      (chain_alike _ _ _ _ _ _ _ _ (checks_alike _ _ (type_alike at there b p.stars sizes)) (λ t _.
      chain_alike _ _ _ _ _ _ _ _ (ask_alike {P = Nothing} next_number next_number (λ w v alike. λ i. length (alike.types i)) (λ w. tt)) (λ k _.
      chain_alike _ _ _ _ _ _ _ _ (checks_alike _ _ (name_alike at there defined p.name k t)) (λ _ _.
      chain_alike _ _ _ _ _ _ _ _ (checks_alike _ _ (number_alike (type_or_void t))) (λ _ _.
      stored_known Nothing (next_site false) _ _ _ _ (next_same false) (λ s. tt) (λ site _.
      arrange_first _ _ _ _ _ _ (site_same site) (site_adds site) (site_adds site)
      (ask_first Nothing _ _ _ _ _ _ (λ w v alike. sized_same n w v alike t) (λ w. tt) (λ size _.
      arrange_first _ _ _ _ _ _ (object_same size) (object_adds size) (object_adds size) (pure_alike itself t tt)))))))))))

  pub params_alike : (ps : List ParamData) → ParamsHaveLengths ps
      → IsAlike Nothing itself (programs.params at defined ps) (programs.params there defined (map (written_param embedded n) ps)) (params at defined ps) (params there defined (map (written_param embedded n) ps))
  params_alike [] h = pure_alike itself [] tt
  params_alike (p ∷ ps) h =
      chain_alike _ _ _ _ _ _ _ _ (param_alike p ps h) (λ t _.
      chain_alike _ _ _ _ _ _ _ _ (params_alike ps h.2) (λ ts _. pure_alike itself (t ∷ ts) tt))

-- ---- what is known of a function behind its parameters

outside_kept : (name : Text) (entry : EntryData) (ss : List ScopeData) → is_reserved name ≡ false → AllKeepReserved ss → AllKeepReserved (put_outside name entry ss)
outside_kept name entry [] free h = tt
outside_kept name entry (s ∷ ss) free h = (with_name_kept name entry s free h.0, h.1)

pub know_alike : (name : Text) (entry : EntryData) → is_reserved name ≡ false → CheckAlike (know_function name entry) (know_function name entry)
unfolding know_function
know_alike name entry free = change_alike _ _ (λ w v alike. record {
  is_source = alike.is_source;
  is_written = alike.is_written;
  here = alike.here;
  outer = λ i. put_outside name entry (alike.outer i);
  structs = alike.structs;
  closed = alike.closed;
  types = alike.types;
  defined = alike.defined;
  labels = alike.labels;
  reserved_here = alike.reserved_here;
  reserved_outer = outside_kept name entry w.outer free alike.reserved_outer;
})
