-- Functions and programs of a source, in which the rules find nothing, and the embedded statements that stand in them.
use Rattle.std.proofs.Common.{◌≡◌, ℕ, Bool, true, false, not, ◌&&◌, List, [], ◌∷◌, ◌++◌, refl, sym, ap, ◌∙◌, subst, Option, Some, None, Result, Ok, Err, if◌then◌else◌}
use Rattle.std.specs.Prelude.{slice_get, is_some}
use Rattle.std.proofs.lemmas.Bool.{false≢true}
use Rattle.ec_base.specs.declared.stop.Stop.{Stop}
use Rattle.ec_ctypes.specs.trees.Types.{TyData}
use Rattle.ec_ctypes.specs.trees.Checked.{MarkData, TypedData}
use Rattle.ec_ctypes.specs.trees.Stmts.{StmtList}
use Rattle.ec_ctypes.specs.trees.Embedded.{EmbData}
use Rattle.ec_ctypes.specs.trees.Units.{ParamData, FuncData, TopData, include_top, directive_top, decl_top, func_top, mark_top, UnitData}
use Rattle.ec_language.specs.First.{Violation, comes_before, earlier, first_of, stop_at}
use Rattle.ec_language.specs.Letters.{Text}
use Rattle.ec_language.proofs.Ends.{both}
use Rattle.ec_typing_defs.specs.Tables.{Named}
use Rattle.ec_typing_defs.specs.Worlds.{Place, EntryData, ScopeData, World}
use Rattle.ec_typing_defs.specs.Programs.{result_rule, plain_param, array_param, param_type, declare_param, param, params, put_outside, begin_function, know_function, body_rule, function_rule, directive_rule, top_rule, tops_rule, main_rule, unit_rule, start}
use Rattle.ec_typing_defs.specs.Answers.{checked, violations, stop_of_unit, answer_by, check_answer}
use Rattle.ec_writing_defs.specs.Shapes.{is_plain_name, is_free_name, is_line, is_written_name, is_void_list}
use Rattle.ec_written_laws.specs.source.SourceShape.{is_source_base, are_source_dims, is_source_param, are_source_params, is_source_body, is_source_func, is_source_top, are_source_tops, is_source_shape}
use Rattle.ec_written_laws.specs.bound.Numbers.{body_numbers, top_numbers, tops_numbers}
use Rattle.ec_written_laws.proofs.bound_lemmas.Rules.{Clean, CleanWith, FreeScopes, put_free, Runs, Holds, Quiet, chained, gives, asked, pure_holds, demand_quiet, change_run, change_holds, place_quiet, enter_quiet, leave_quiet, free_name_holds, declare_holds, number_quiet}
use Rattle.ec_written_laws.proofs.bound_lemmas.Operands.{elements_quiet, within_quiet, complete_quiet}
use Rattle.ec_written_laws.proofs.bound_lemmas.Expressions.{base_quiet, lengths_quiet}
use Rattle.ec_written_laws.proofs.bound_lemmas.EmbeddedRules.{PlainLabels, AreSimple, HasKnownNames, IsKnown, embedded_known}
use Rattle.ec_written_laws.proofs.bound_lemmas.Statements.{declaration_quiet, labels_plain, AllOf, Before, statements_known}

-- ---- parameters

result_quiet : (at : Place) (t : Option TyData) → Quiet (result_rule at t)
unfolding result_rule
result_quiet at t = chained (demand_quiet _ _ _) (λ a p. pure_holds _ tt)

plain_quiet : (at : Place) (t : Option TyData) → Quiet (plain_param at t)
unfolding plain_param
plain_quiet at t = chained (demand_quiet _ _ _) (λ a p. pure_holds _ tt)

array_quiet : (at : Place) (t : Option TyData) → Quiet (array_param at t)
array_quiet at t = chained (within_quiet at t) (λ a p. chained (complete_quiet at t) (λ b q. pure_holds _ tt))

type_quiet : (at : Place) (t : Option TyData) (stars : ℕ) (ns : List (Option ℕ)) → Quiet (param_type at t stars ns)
type_quiet at t stars [] = plain_quiet at _
type_quiet at t stars (n ∷ ns) = array_quiet at _

declare_param_quiet : (at : Place) (defined : Bool) (name : Option Text) (k : ℕ) (t : Option TyData) → is_written_name name ≡ true → Quiet (declare_param at defined name k t)
declare_param_quiet at defined None k t h = demand_quiet _ _ _
declare_param_quiet at defined (Some name) k t h = gives (declare_holds at name _ h) (λ u v. tt)

param_quiet : (at : Place) (defined : Bool) (q : ParamData) → is_source_param q ≡ true → Quiet (param at defined q)
param_quiet at defined q s =
    let p = both (is_source_base q.base) (is_written_name q.name && are_source_dims q.dims) s in
    let r = both (is_written_name q.name) (are_source_dims q.dims) p.1 in
    chained (base_quiet at q.base p.0) (λ b h. chained (lengths_quiet at q.dims r.1) (λ sizes k. chained (elements_quiet at b q.stars sizes) (λ u v. chained (type_quiet at b q.stars sizes) (λ t x. asked _ _ (λ w c. chained (declare_param_quiet at defined q.name _ t r.0) (λ a y. chained (number_quiet _) (λ e z. pure_holds _ tt)))))))

params_quiet : (at : Place) (defined : Bool) (qs : List ParamData) → are_source_params qs ≡ true → Quiet (params at defined qs)
params_quiet at defined [] s = pure_holds _ tt
params_quiet at defined (q ∷ qs) s = let p = both (is_source_param q) (are_source_params qs) s in chained (param_quiet at defined q p.0) (λ t h. chained (params_quiet at defined qs p.1) (λ ts k. pure_holds _ tt))

-- ---- functions

begin_holds : (name : Text) (entry : EntryData) → Runs Clean (CleanWith name) (begin_function name entry) (λ u. Unit {0})
unfolding begin_function
begin_holds name entry = change_run _ Clean (CleanWith name) (λ w c free. (put_free name entry w.here.names free c.0, c.1, c.2))

know_quiet : (name : Text) (entry : EntryData) → is_free_name name ≡ true → Quiet (know_function name entry)
unfolding know_function
know_quiet name entry free = change_holds _ (λ w c. (c.0, go w.outer c.1, c.2))
  where
    go : (ss : List ScopeData) → FreeScopes ss → FreeScopes (put_outside name entry ss)
    go [] c = tt
    go (s ∷ ss) c = (put_free name entry s.names free c.0, c.1)

body_known : (es : List EmbData) → AreSimple es → (r : Option TyData) (b : Option StmtList) → is_source_body b ≡ true → Holds (body_rule es r b) (λ u. Before (IsKnown es) (body_numbers b))
body_known es s r None h = pure_holds _ (λ ns k. k)
body_known es s r (Some ss) h = chained (change_holds _ (λ w c. c)) (λ a p. statements_known _ ss h s (labels_plain ss h))

function_known : (es : List EmbData) → AreSimple es → (f : FuncData) → is_source_func f ≡ true → Holds (function_rule es f) (λ u. Before (IsKnown es) (body_numbers f.body))
function_known es s f h =
    let p = both (is_line f.line.0) ((is_source_base f.base && is_plain_name f.name) && ((are_source_params f.params && not (is_void_list f.params)) && is_source_body f.body)) h in
    let q = both (is_source_base f.base && is_plain_name f.name) ((are_source_params f.params && not (is_void_list f.params)) && is_source_body f.body) p.1 in
    let named = both (is_source_base f.base) (is_plain_name f.name) q.0 in
    let rest = both (are_source_params f.params && not (is_void_list f.params)) (is_source_body f.body) q.1 in
    let parameters = both (are_source_params f.params) (not (is_void_list f.params)) rest.0 in
    chained (place_quiet f.line) (λ at a0. chained (base_quiet at f.base named.0) (λ b a1. chained (result_quiet at _) (λ r a2. asked _ _ (λ w c. asked _ _ (λ v d. chained (begin_holds f.name _) (λ x3 a3. chained (free_name_holds at f.name named.1) (λ x4 free.
    chained (number_quiet _) (λ x5 a5. chained enter_quiet (λ x6 a6. chained (params_quiet at (is_some f.body) f.params parameters.0) (λ ps a7. chained (know_quiet f.name _ free) (λ x8 a8. chained (demand_quiet _ _ _) (λ x9 a9.
    chained (body_known es s r f.body rest.1) (λ x10 k. gives leave_quiet (λ u v. k))))))))))))))

-- ---- programs

no_labels : PlainLabels []
no_labels l e = absurd (false≢true e)

directive_known : (es : List EmbData) → AreSimple es → (n : ℕ) (e : Option EmbData) → slice_get es n ≡ e → Holds (directive_rule es n e) (λ u. IsKnown es n)
directive_known es s n None i = pure_holds _ (λ e j. absurd (clash e j))
  where
    clash : (e : EmbData) → slice_get es n ≡ Some e → ⊥
    clash e j = cc (i, j)
directive_known es s n (Some e) i = chained (place_quiet e.line) (λ at p. gives (embedded_known es s false false [] at n e no_labels i) (λ u h. known h))
  where
    known : HasKnownNames es e → IsKnown es n
    known h f j = let same : Some e ≡ Some f = sym i ∙ j in let these : e ≡ f = cc in subst (HasKnownNames es) these h

top_known : (es : List EmbData) → AreSimple es → (t : TopData) → is_source_top t ≡ true → Holds (top_rule es t) (λ u. Before (IsKnown es) (top_numbers t))
top_known es s (include_top bytes) h = pure_holds _ (λ ns k. k)
top_known es s (directive_top n) h = gives (directive_known es s n (slice_get es n) refl) (λ u v ns k. (v, k))
top_known es s (decl_top d) h = gives (declaration_quiet true d h) (λ u v ns k. k)
top_known es s (func_top f) h = function_known es s f h
top_known es s (mark_top opens line) h = pure_holds _ (λ ns k. k)

tops_known : (es : List EmbData) → AreSimple es → (ts : List TopData) → are_source_tops ts ≡ true → Holds (tops_rule es ts) (λ u. Before (IsKnown es) (tops_numbers ts))
tops_known es s [] h = pure_holds _ (λ ns k. k)
tops_known es s (t ∷ ts) h =
    let p = both (is_source_top t) (are_source_tops ts) h in
    chained (top_known es s t p.0) (λ a k. gives (tops_known es s ts p.1) (λ u m ns b. k (tops_numbers ts ns) (m ns b)))

main_quiet : (ts : List TopData) (at : Place) → Quiet (main_rule ts at)
unfolding main_rule
main_quiet ts at = demand_quiet _ _ _

unit_known : (u : UnitData) → AreSimple u.embs → is_source_shape u ≡ true → Holds (unit_rule u) (λ v. AllOf (IsKnown u.embs) (tops_numbers u.tops []))
unit_known u s h = chained (tops_known u.embs s u.tops h) (λ a k. gives (chained (place_quiet u.last) (λ at p. main_quiet u.tops at)) (λ v w. k [] tt))

-- ---- no violation

some_earlier : (v : Violation) (x : Option Violation) → stop_at (earlier v x) ≡ None → ⊥
some_earlier v None e = cc
some_earlier v (Some w) e = go (comes_before w v) e
  where
    go : (b : Bool) → stop_at (if b then Some w else Some v) ≡ None → ⊥
    go true e = cc
    go false e = cc

none_first : (vs : List Violation) → stop_at (first_of vs) ≡ None → vs ≡ []
none_first [] e = refl
none_first (v ∷ vs) e = absurd (some_earlier v (first_of vs) e)

start_clean : (written : Bool) (u : UnitData) → Clean (start written u)
start_clean written u = (tt, tt, ((refl, (refl, tt)), ((refl, (refl, (refl, (refl, (refl, (refl, (refl, (refl, tt)))))))), tt)))

none_stops : (x : Option Stop) (u : UnitData) (hosts : List ℕ) (handlers : List MarkData) (w : World) (t : TypedData) → answer_by u hosts handlers w x ≡ Ok t → x ≡ None
none_stops None u hosts handlers w t e = refl
none_stops (Some stop) u hosts handlers w t e = absurd (cc)

-- Where the checks find no fault, what stands in the tree is known, and the world behind is clean.
pub checks_known : (written : Bool) (u : UnitData) (hosts : List ℕ) (handlers : List MarkData) (t : TypedData) → AreSimple u.embs → is_source_shape u ≡ true → check_answer written u hosts handlers ≡ Ok t
    → Clean (checked written u).world × AllOf (IsKnown u.embs) (tops_numbers u.tops [])
checks_known written u hosts handlers t s h e = (unit_known u s h).run (start written u) (start_clean written u) (none_first (violations written u) (none_stops (stop_of_unit written u) u hosts handlers (checked written u).world t e))
