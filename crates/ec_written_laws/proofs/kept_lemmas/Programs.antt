-- Functions and programs in which the rules find nothing.
use Rattle.std.proofs.Common.{◌≡◌, ℕ, Bool, true, false, List, [], ◌∷◌, refl, Option, Some, None, Ok}
use Rattle.std.specs.Prelude.{slice_get, is_some}
use Rattle.ec_base.specs.declared.stop.Stop.{Stop}
use Rattle.ec_ctypes.specs.trees.Types.{TyData}
use Rattle.ec_ctypes.specs.trees.Checked.{MarkData, TypedData}
use Rattle.ec_ctypes.specs.trees.Stmts.{StmtList}
use Rattle.ec_ctypes.specs.trees.Embedded.{EmbData}
use Rattle.ec_ctypes.specs.trees.Units.{ParamData, FuncData, TopData, include_top, directive_top, decl_top, func_top, mark_top, UnitData}
use Rattle.ec_language.specs.Letters.{Text}
use Rattle.ec_language.proofs.Ends.{both}
use Rattle.ec_typing_defs.specs.Worlds.{Place, EntryData, ScopeData}
use Rattle.ec_typing_defs.specs.Programs.{result_rule, plain_param, array_param, param_type, declare_param, param, params, put_outside, begin_function, know_function, body_rule, function_rule, directive_rule, top_rule, tops_rule, main_rule, unit_rule, start}
use Rattle.ec_typing_defs.specs.Answers.{checked, violations, stop_of_unit, answer_by, check_answer}
use Rattle.ec_written_laws.specs.source.Kept.{keeps_param, keeps_params, keeps_body, keeps_func, keeps_top, keeps_tops, is_kept}
use Rattle.ec_written_laws.specs.kept.Phases.{by_checks}
use Rattle.ec_written_laws.proofs.kept_lemmas.Rules.{join, clean_tags, clean_scopes, Holds, Quiet, chained, gives, asked, pure_holds, demand_quiet, change_holds, place_quiet, enter_quiet, leave_quiet, free_name_quiet, declare_quiet, number_quiet}
use Rattle.ec_written_laws.proofs.kept_lemmas.Operands.{elements_quiet, within_quiet, complete_quiet}
use Rattle.ec_written_laws.proofs.kept_lemmas.Expressions.{as_type, base_kept, lengths_kept}
use Rattle.ec_written_laws.proofs.kept_lemmas.EmbeddedRules.{embedded_quiet}
use Rattle.ec_written_laws.proofs.kept_lemmas.Statements.{declaration_kept, statements_kept}
use Rattle.ec_written_laws.proofs.kept_lemmas.Sections.{none_first}

-- ---- parameters

result_quiet : (at : Place) (t : Option TyData) → Quiet (result_rule at t)
unfolding result_rule
result_quiet at t = chained (demand_quiet _ _ _) (λ a p. pure_holds _ tt)

plain_quiet : (at : Place) (t : Option TyData) → Quiet (plain_param at t)
unfolding plain_param
plain_quiet at t = chained (demand_quiet _ _ _) (λ a p. pure_holds _ tt)

array_quiet : (at : Place) (t : Option TyData) → Quiet (array_param at t)
array_quiet at t = chained (within_quiet at t) (λ a p. chained (complete_quiet at t) (λ b q. pure_holds _ tt))

type_quiet : (at : Place) (t : Option TyData) (stars : ℕ) (ns : List (Option ℕ)) → Quiet (param_type at t stars ns)
type_quiet at t stars [] = plain_quiet at _
type_quiet at t stars (n ∷ ns) = array_quiet at _

declare_param_quiet : (at : Place) (defined : Bool) (name : Option Text) (k : ℕ) (t : Option TyData) → Quiet (declare_param at defined name k t)
declare_param_quiet at defined None k t = demand_quiet _ _ _
declare_param_quiet at defined (Some name) k t = declare_quiet at name _

param_kept : (at : Place) (defined : Bool) (q : ParamData) → Holds (param at defined q) (keeps_param by_checks q ≡ true)
param_kept at defined q =
    chained (base_kept at q.base) (λ b h. chained (lengths_kept at q.dims) (λ sizes k. chained (elements_quiet at b q.stars sizes) (λ u v. chained (type_quiet at b q.stars sizes) (λ t p. asked _ _ (λ w c. chained (declare_param_quiet at defined q.name _ t) (λ a r. chained (number_quiet _) (λ e s. pure_holds _ (join (as_type q.base h) k))))))))

params_kept : (at : Place) (defined : Bool) (qs : List ParamData) → Holds (params at defined qs) (keeps_params by_checks qs ≡ true)
params_kept at defined [] = pure_holds _ refl
params_kept at defined (q ∷ qs) = chained (param_kept at defined q) (λ t h. chained (params_kept at defined qs) (λ ts k. pure_holds _ (join h k)))

-- ---- functions

begin_quiet : (name : Text) (entry : EntryData) → Quiet (begin_function name entry)
unfolding begin_function
begin_quiet name entry = change_holds _ (λ w c. c)

know_quiet : (name : Text) (entry : EntryData) → Quiet (know_function name entry)
unfolding know_function
know_quiet name entry = change_holds _ (λ w c. let p = both (clean_tags w.here.tags) (clean_scopes w.outer) c in join p.0 (go w.outer p.1))
  where
    go : (ss : List ScopeData) → clean_scopes ss ≡ true → clean_scopes (put_outside name entry ss) ≡ true
    go [] c = refl
    go (s ∷ ss) c = c

body_kept : (es : List EmbData) (r : Option TyData) (b : Option StmtList) → Holds (body_rule es r b) (keeps_body by_checks b ≡ true)
body_kept es r None = pure_holds _ refl
body_kept es r (Some ss) = chained (change_holds _ (λ w c. c)) (λ a p. statements_kept _ ss)

function_kept : (es : List EmbData) (f : FuncData) → Holds (function_rule es f) (keeps_func by_checks f ≡ true)
function_kept es f =
    chained (place_quiet f.line) (λ at p. chained (base_kept at f.base) (λ b h. chained (result_quiet at _) (λ r p1. asked _ _ (λ w c. asked _ _ (λ v d. chained (begin_quiet f.name _) (λ a2 p2. chained (free_name_quiet at f.name) (λ a3 p3.
    chained (number_quiet _) (λ a4 p4. chained enter_quiet (λ a5 p5. chained (params_kept at (is_some f.body) f.params) (λ ps k. chained (know_quiet f.name _) (λ a6 p6. chained (demand_quiet _ _ _) (λ a7 p7.
    chained (body_kept es r f.body) (λ a8 l. gives leave_quiet (λ u. join (as_type f.base h) (join k l)))))))))))))))

-- ---- programs

directive_quiet : (es : List EmbData) (n : ℕ) (e : Option EmbData) → Quiet (directive_rule es n e)
directive_quiet es n None = pure_holds _ tt
directive_quiet es n (Some e) = chained (place_quiet e.line) (λ at p. embedded_quiet es false false [] at n e)

top_kept : (es : List EmbData) (t : TopData) → Holds (top_rule es t) (keeps_top by_checks t ≡ true)
top_kept es (include_top bytes) = pure_holds _ refl
top_kept es (directive_top n) = gives (directive_quiet es n (slice_get es n)) (λ u. refl)
top_kept es (decl_top d) = declaration_kept true d
top_kept es (func_top f) = function_kept es f
top_kept es (mark_top opens line) = pure_holds _ refl

tops_kept : (es : List EmbData) (ts : List TopData) → Holds (tops_rule es ts) (keeps_tops by_checks ts ≡ true)
tops_kept es [] = pure_holds _ refl
tops_kept es (t ∷ ts) = chained (top_kept es t) (λ a h. gives (tops_kept es ts) (λ k. join h k))

main_quiet : (ts : List TopData) (at : Place) → Quiet (main_rule ts at)
unfolding main_rule
main_quiet ts at = demand_quiet _ _ _

unit_holds : (u : UnitData) → Holds (unit_rule u) (is_kept by_checks u ≡ true)
unit_holds u = chained (tops_kept u.embs u.tops) (λ a h. gives (chained (place_quiet u.last) (λ at p. main_quiet u.tops at)) (λ v. h))

pub checked_kept : (written : Bool) (u : UnitData) (hosts : List ℕ) (handlers : List MarkData) (t : TypedData) → check_answer written u hosts handlers ≡ Ok t → is_kept by_checks u ≡ true
checked_kept written u hosts handlers t e = ((unit_holds u).run (start written u) refl (none_first (violations written u) (go (stop_of_unit written u) e))).1
  where
    go : (x : Option Stop) → answer_by u hosts handlers (checked written u).world x ≡ Ok t → x ≡ None
    go None e = refl
    go (Some stop) e = absurd (cc)
