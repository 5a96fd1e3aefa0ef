-- What is kept by functions and the items of a program, and so by a whole program.
use Rattle.std.proofs.Common.{◌≡◌, ◌∙◌, ℕ, ◌+◌, Bool, true, false, not, List, [], ◌∷◌, ◌++◌, length, drop, Option, Some, None, refl, sym, ap, append-nil, slice_get, arith}
use Rattle.std.specs.Prelude.{is_some}
use Rattle.ec_base.specs.declared.fault.FaultKind.TheVariants.{F14}
use Rattle.ec_written_laws.specs.bound.Numbers.{numbers_from, body_numbers, top_numbers, tops_numbers}
use Rattle.ec_ctypes.specs.trees.Types.{TyData}
use Rattle.ec_ctypes.specs.trees.Stmts.{StmtList}
use Rattle.ec_ctypes.specs.trees.Embedded.{EmbData}
use Rattle.ec_ctypes.specs.trees.Units.{ParamData, FuncData, TopData, include_top, directive_top, decl_top, func_top, mark_top, UnitData}
use Rattle.ec_language.specs.Letters.{Text}
use Rattle.ec_host_defs.specs.sections.Declared.{Declared, an_object, declared_params, declared_in_body, declared_function, declared_in_top, declared_in_tops}
use Rattle.ec_typing_defs.specs.Statements.{type_or_void}
use Rattle.ec_typing_defs.specs.Programs.{declare_param, param, params, body_rule, function_rule, directive_rule, top_rule, tops_rule, unit_rule, main_rule, start}
use Rattle.ec_typing_defs.specs.Worlds.{Place, object, Rule, chain, pure, ask, change, next_number, number_as}
use Rattle.ec_sim_world_laws.proofs.growth_lemmas.Rules as growth
use Rattle.ec_sim_world_laws.proofs.closing_lemmas.Lists.{none_not}
use Rattle.ec_sim_world_laws.proofs.known_lemmas.NamesRules.{Staying, demand_stays, place_stays, free_name_stays}
use Rattle.ec_sim_world_laws.proofs.known_lemmas.NamesOperands.{elements_stays}
use Rattle.ec_sim_world_laws.proofs.known_lemmas.NamesExpressions.{base_stays, lengths_stay}
use Rattle.ec_sim_world_laws.proofs.known_lemmas.NamesStatements.{result_stays, param_type_stays, new_labels_stay}
use Rattle.ec_sim_program_laws.proofs.program_lemmas.DenotingRules.{DenotesNone, demand_denotes, place_denotes, free_name_denotes, changed}
use Rattle.ec_sim_program_laws.proofs.program_lemmas.DenotingOperands.{elements_denotes}
use Rattle.ec_sim_program_laws.proofs.program_lemmas.DenotingExpressions.{base_denotes, lengths_denote}
use Rattle.ec_sim_program_laws.proofs.program_lemmas.DenotingPrograms.{result_denotes, type_denotes}
use Rattle.ec_sim_source_laws.proofs.object_lemmas.Walking.{Known, Walking, one_longer, one_passed, still_known, both, behind, before, none, asked, pure_walks, number_walks, enter_walks, leave_walks, begin_walks, know_walks}
use Rattle.ec_sim_source_laws.proofs.object_lemmas.WalkingStatements.{AllAreReferences, declared_world, object_more, declaration_walks, embedded_walks, none_walks, statements_walk}

-- ---- parameters

-- behind its type
abbrev param_behind : Place → Bool → Option Text → Option TyData → Rule (Option TyData)
param_behind at defined name t = chain (ask next_number) (λ k. chain (declare_param at defined name k t) (λ _. chain (number_as (type_or_void t)) (λ _. pure t)))

param_behind_walks : {es : List EmbData} {all : Declared} {ns : List ℕ} (section : Bool) (at : Place) (defined : Bool) (name : Option Text) (t : Option TyData)
    → Walking es all (an_object section ∷ []) ns ns (param_behind at defined name t)
unfolding chain ask change number_as pure
param_behind_walks {es} {all} {ns} section at defined None t = record {
  walks = λ rest w position known found.
      let z = (param_behind at defined None t w).world in
      let d = growth.demand_same at F14 (not defined) w in (
        ap (λ v. drop (length (v.types ++ type_or_void t ∷ [])) all) d ∙ ap (λ n. drop n all) (one_longer w.types (type_or_void t)) ∙ one_passed (length w.types) all rest (an_object section) position,
        still_known es all ns w z (ap (λ v. v.here.names) d) (ap (λ v. v.outer) d) (ap (λ v. v.denoted) d) known,
      );
}
param_behind_walks {es} {all} {ns} section at defined (Some name) t = record {
  walks = λ rest w position known found.
      let z = (param_behind at defined (Some name) t w).world in
      let d = declared_world at name (object (length w.types) false t) w in
      object_more es all rest ns w z section name false t (type_or_void t) (ap (λ v. v.here.names) d) (ap (λ v. v.outer) d) (ap (λ v. v.types ++ type_or_void t ∷ []) d) (ap (λ v. v.denoted) d) position known;
}

module _ {es : List EmbData} {all : Declared} {ns : List ℕ} where
  param_walks : (section : Bool) (at : Place) (defined : Bool) (q : ParamData) → Walking es all (an_object section ∷ []) ns ns (param at defined q)
  param_walks section at defined q =
      behind (none (base_stays at q.base) (base_denotes at q.base)) (λ b. behind (none (lengths_stay at q.dims) (lengths_denote at q.dims)) (λ sizes. behind (none (elements_stays at b q.stars sizes) (elements_denotes at b q.stars sizes)) (λ u.
      behind (none (param_type_stays at b q.stars sizes) (type_denotes at b q.stars sizes)) (λ t. param_behind_walks section at defined q.name t))))

  params_walk : (at : Place) (defined : Bool) (qs : List ParamData) → Walking es all (declared_params qs) ns ns (params at defined qs)
  params_walk at defined [] = pure_walks _
  params_walk at defined (q ∷ qs) = both (an_object q.section ∷ []) (declared_params qs) (param_walks q.section at defined q) (λ t. before (params_walk at defined qs) (λ ts. pure_walks _))

-- ---- functions and the items of a program

new_labels_denote : DenotesNone (change (λ w. record w { labels = [] }))
new_labels_denote = changed _ (λ w. refl)

module _ (es : List EmbData) (all : Declared) (read : AllAreReferences es) where
  body_walks : (ns : List ℕ) (r : Option TyData) (b : Option StmtList) → Walking es all (declared_in_body b) (body_numbers b ns) ns (body_rule es r b)
  body_walks ns r None = pure_walks _
  body_walks ns r (Some ss) = behind (none new_labels_stay new_labels_denote) (λ a. statements_walk all _ read ns ss)

  function_walks : (ns : List ℕ) (f : FuncData) → Walking es all (declared_function f) (body_numbers f.body ns) ns (function_rule es f)
  function_walks ns f =
      behind (none (place_stays f.line) (place_denotes f.line)) (λ at. behind (none (base_stays at f.base) (base_denotes at f.base)) (λ b. behind (none (result_stays at _) (result_denotes at _)) (λ r. asked _ _ (λ k. asked _ _ (λ first.
      behind (begin_walks f.name k _ r None) (λ a2. behind (none (free_name_stays at f.name) (free_name_denotes at f.name)) (λ a3.
      both (record { section = f.section; is_function = true } ∷ []) (declared_params f.params ++ declared_in_body f.body) (number_walks _ _) (λ a4. behind enter_walks (λ a5.
      both (declared_params f.params) (declared_in_body f.body) (params_walk at (is_some f.body) f.params) (λ ps. behind (know_walks f.name k _ r (Some ps)) (λ a6. behind (none (demand_stays _ _ _) (demand_denotes _ _ _)) (λ a7.
      before (body_walks ns r f.body) (λ a8. leave_walks)))))))))))))

  directive_walks : (n : ℕ) (ns : List ℕ) (e : Option EmbData) → slice_get es n ≡ e → Walking es all [] (n ∷ ns) ns (directive_rule es n e)
  directive_walks n ns None is = none_walks es all n ns is
  directive_walks n ns (Some e) is = behind (none (place_stays e.line) (place_denotes e.line)) (λ at. embedded_walks es all false false [] at n ns e is (read n e is))

  top_walks : (ns : List ℕ) (t : TopData) → Walking es all (declared_in_top t) (top_numbers t ns) ns (top_rule es t)
  top_walks ns (include_top bytes) = pure_walks _
  top_walks ns (directive_top n) = directive_walks n ns (slice_get es n) refl
  top_walks ns (decl_top d) = declaration_walks true d
  top_walks ns (func_top f) = function_walks ns f
  top_walks ns (mark_top opens line) = pure_walks _

  tops_walk : (ns : List ℕ) (ts : List TopData) → Walking es all (declared_in_tops ts) (tops_numbers ts ns) ns (tops_rule es ts)
  tops_walk ns [] = pure_walks _
  tops_walk ns (t ∷ ts) = both (declared_in_top t) (declared_in_tops ts) (top_walks (tops_numbers ts ns) t) (λ a. tops_walk ns ts)

main_stays : (ts : List TopData) (at : Place) → Staying (main_rule ts at)
unfolding main_rule
main_stays ts at = demand_stays _ _ _

main_denotes : (ts : List TopData) (at : Place) → DenotesNone (main_rule ts at)
unfolding main_rule
main_denotes ts at = demand_denotes _ _ _

unit_walks : (u : UnitData) → AllAreReferences u.embs → Walking u.embs (declared_in_tops u.tops) (declared_in_tops u.tops) (tops_numbers u.tops []) [] (unit_rule u)
unit_walks u read =
    before (tops_walk u.embs (declared_in_tops u.tops) read [] u.tops) (λ a. behind (none (place_stays u.last) (place_denotes u.last)) (λ at. none (main_stays u.tops at) (main_denotes u.tops at)))

-- at the start nothing is declared
start_known : (written : Bool) (u : UnitData) → tops_numbers u.tops [] ≡ numbers_from 0 (length u.embs) → Known u.embs (declared_in_tops u.tops) (tops_numbers u.tops []) (start written u)
start_known written u numbers = record {
  here = λ x entry e. none_not e;
  outer = tt;
  rows = λ n row e is is_emb. none_not is;
  to_come = record { count = length u.embs; are = numbers; all = none_first (length u.embs) };
}
  where
    none_first : (n : ℕ) → 0 + n ≡ n
    none_first n = omega (arith)

-- what is known behind a program without a violation
pub unit_known : (written : Bool) (u : UnitData) → tops_numbers u.tops [] ≡ numbers_from 0 (length u.embs) → AllAreReferences u.embs → (unit_rule u (start written u)).found ≡ []
    → Known u.embs (declared_in_tops u.tops) [] (unit_rule u (start written u)).world
unit_known written u numbers read found = ((unit_walks u read).walks [] (start written u) (sym (append-nil (declared_in_tops u.tops))) (start_known written u numbers) found).1
