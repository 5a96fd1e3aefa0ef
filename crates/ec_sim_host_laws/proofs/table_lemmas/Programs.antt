-- Tables stay as they are to be by functions and programs.
use Rattle.std.proofs.Common.{ℕ, Bool, true, false, List, [], ◌∷◌, sym, subst, Option, Some, None}
use Rattle.std.specs.Prelude.{slice_get, is_some}
use Rattle.ec_ctypes.specs.trees.Types.{TyData}
use Rattle.ec_ctypes.specs.trees.Stmts.{StmtList}
use Rattle.ec_ctypes.specs.trees.Embedded.{EmbData}
use Rattle.ec_ctypes.specs.trees.Units.{ParamData, FuncData, TopData, include_top, directive_top, decl_top, func_top, mark_top, UnitData}
use Rattle.ec_language.specs.Letters.{Text}
use Rattle.ec_typing_defs.specs.Worlds.{Place, EntryData, StructInfo, World, chain, pure, ask, next_number, number_as}
use Rattle.ec_typing_defs.specs.Operands.{declared_type}
use Rattle.ec_typing_defs.specs.Statements.{type_or_void}
use Rattle.ec_typing_defs.specs.Programs.{kept, may_be_result, may_be_param, pointer_to, result_rule, plain_param, array_param, param_type, declare_param, param, params, begin_function, know_function, body_rule, function_rule, directive_rule, top_rule, tops_rule, main_rule, unit_rule}
use Rattle.ec_sim_host_laws.proofs.table_lemmas.Full.{IsFullBody, IsFullTop, AreFullTops}
use Rattle.ec_sim_host_laws.proofs.table_lemmas.Fitting.{IsFlatIn, IsPlainIn, declared_plain, declared_flat, IsFitIn, flat_fit, fit_in_stays}
use Rattle.ec_sim_host_laws.proofs.table_lemmas.Rules.{OnlyIf, if_so, if_then, Nothing, kept_itself, Keeping, chained, chained_from, asked, pure_keeps, demand_keeps, change_keeps, place_keeps, enter_keeps, leave_keeps, free_name_keeps, declare_keeps, At, wherever, followed_by, quietly, asked_at, at_then}
use Rattle.ec_sim_host_laws.proofs.table_lemmas.Operands.{elements_keeps, within_keeps, complete_keeps}
use Rattle.ec_sim_host_laws.proofs.table_lemmas.Expressions.{tested, base_flat, base_keeps, lengths_keep}
use Rattle.ec_sim_host_laws.proofs.table_lemmas.EmbeddedRules.{embedded_keeps}
use Rattle.ec_sim_host_laws.proofs.table_lemmas.Statements.{number_in, declaration_keeps, statements_keep}

-- ---- parameters

result_keeps : {quiet : Bool} (at : Place) (t : Option TyData) → Keeping quiet (result_rule at t)
unfolding result_rule
result_keeps at t = chained (demand_keeps _ _ _) (λ a. pure_keeps _)

plain_keeps : {quiet : Bool} (at : Place) (t : Option TyData) → Keeping quiet (plain_param at t)
unfolding plain_param
plain_keeps at t = chained (demand_keeps _ _ _) (λ a. pure_keeps _)

array_keeps : {quiet : Bool} (at : Place) (t : Option TyData) → Keeping quiet (array_param at t)
array_keeps at t = chained (within_keeps at t) (λ a. chained (complete_keeps at t) (λ b. pure_keeps _))

type_keeps : {quiet : Bool} (at : Place) (t : Option TyData) (stars : ℕ) (ns : List (Option ℕ)) → Keeping quiet (param_type at t stars ns)
type_keeps at t stars [] = plain_keeps at _
type_keeps at t stars (n ∷ ns) = array_keeps at _

declare_param_keeps : {quiet : Bool} (at : Place) (defined : Bool) (name : Option Text) (k : ℕ) (t : Option TyData) → Keeping quiet (declare_param at defined name k t)
declare_param_keeps at defined None k t = demand_keeps _ _ _
declare_param_keeps at defined (Some name) k t = declare_keeps at name _

-- a type that is taken or not
kept_flat : (t : Option TyData) (b : Bool) → IsFlatIn t → IsFlatIn (kept t b)
kept_flat t true h = h
kept_flat t false h = tt

flat_in_fit : (ss : List StructInfo) (t : Option TyData) → IsFlatIn t → IsFitIn ss t
flat_in_fit ss None h = tt
flat_in_fit ss (Some t) h = flat_fit ss t h

pointer_fit : (ss : List StructInfo) (t : Option TyData) → IsFitIn ss t → IsFitIn ss (pointer_to t)
pointer_fit ss None h = tt
pointer_fit ss (Some t) h = h

plain_param_fit : (at : Place) (t : Option TyData) → IsFlatIn t → (w : World) → IsFitIn (plain_param at t w).world.structs (plain_param at t w).answer
unfolding plain_param chain pure
plain_param_fit at t flat w = flat_in_fit _ _ (kept_flat t (may_be_param t) flat)

array_param_fit : (at : Place) (t : Option TyData) → IsPlainIn t → (w : World) → Nothing (array_param at t w).found → IsFitIn (array_param at t w).world.structs (array_param at t w).answer
unfolding pure
array_param_fit at t plain w e =
    let p = tested at w t plain (λ s. pure (pointer_to s)) e in
    subst (λ z. IsFitIn z.structs (array_param at t w).answer) (sym p.world) (subst (IsFitIn w.structs) (sym p.answer) (pointer_fit w.structs t p.fit))

type_fit : (quiet : Bool) (at : Place) (t : Option TyData) (stars : ℕ) (ns : List (Option ℕ)) → IsFlatIn t → (w : World) → OnlyIf quiet (Nothing (param_type at t stars ns w).found)
    → OnlyIf quiet (IsFitIn (param_type at t stars ns w).world.structs (param_type at t stars ns w).answer)
type_fit quiet at t stars [] flat w e = if_so quiet (plain_param_fit at (declared_type t stars []) (declared_flat t stars flat) w)
type_fit quiet at t stars (n ∷ ns) flat w e = if_then quiet (array_param_fit at (declared_type t stars ns) (declared_plain t stars ns flat) w) e

param_at : {quiet : Bool} (at : Place) (defined : Bool) (q : ParamData) (b : Option TyData) (sizes : List (Option ℕ)) → IsFlatIn b → (w : World)
    → At quiet w (chain (param_type at b q.stars sizes) (λ t. chain (ask next_number) (λ k. chain (declare_param at defined q.name k t) (λ u. chain (number_as (type_or_void t)) (λ u. pure t)))))
param_at {quiet = quiet} at defined q b sizes flat w =
    followed_by (λ x t. OnlyIf quiet (IsFitIn x.structs t)) (type_keeps at b q.stars sizes) (λ e. type_fit quiet at b q.stars sizes flat w e) (λ x t stay fits.
    asked_at next_number _ x (quietly (declare_param_keeps at defined q.name _ t) (λ y u stay. at_then (number_in y t (if_then quiet (fit_in_stays x.structs y.structs stay t) fits)) (λ u. pure_keeps _))))

param_keeps : {quiet : Bool} (at : Place) (defined : Bool) (q : ParamData) → Keeping quiet (param at defined q)
param_keeps at defined q =
    chained_from IsFlatIn (base_keeps at q.base) (base_flat at q.base) (λ b flat. chained (lengths_keep at q.dims) (λ sizes. chained (elements_keeps at b q.stars sizes) (λ u. wherever (λ w. param_at at defined q b sizes flat w))))

params_keep : {quiet : Bool} (at : Place) (defined : Bool) (qs : List ParamData) → Keeping quiet (params at defined qs)
params_keep at defined [] = pure_keeps _
params_keep at defined (q ∷ qs) = chained (param_keeps at defined q) (λ t. chained (params_keep at defined qs) (λ ts. pure_keeps _))

-- ---- functions

begin_keeps : {quiet : Bool} (name : Text) (entry : EntryData) → Keeping quiet (begin_function name entry)
unfolding begin_function
begin_keeps name entry = change_keeps _ (λ w s. kept_itself s)

know_keeps : {quiet : Bool} (name : Text) (entry : EntryData) → Keeping quiet (know_function name entry)
unfolding know_function
know_keeps name entry = change_keeps _ (λ w s. kept_itself s)

body_keeps : {quiet : Bool} (es : List EmbData) (r : Option TyData) (b : Option StmtList) → OnlyIf quiet (IsFullBody b) → Keeping quiet (body_rule es r b)
body_keeps es r None full = pure_keeps _
body_keeps es r (Some ss) full = chained (change_keeps _ (λ w s. kept_itself s)) (λ a. statements_keep _ ss full)

result_flat : (at : Place) (t : Option TyData) → IsFlatIn t → (w : World) → IsFlatIn (result_rule at t w).answer
unfolding result_rule chain pure
result_flat at t flat w = kept_flat t (may_be_result t) flat

flat_number : {quiet : Bool} (t : Option TyData) → IsFlatIn t → Keeping quiet (number_as (type_or_void t))
flat_number {quiet = quiet} t flat = wherever (λ w. number_in w t (if_so quiet (flat_in_fit w.structs t flat)))

pub function_keeps : {quiet : Bool} (es : List EmbData) (f : FuncData) → OnlyIf quiet (IsFullBody f.body) → Keeping quiet (function_rule es f)
function_keeps es f full =
    chained (place_keeps f.line) (λ at. chained_from IsFlatIn (base_keeps at f.base) (base_flat at f.base) (λ b flat. chained_from IsFlatIn (result_keeps at _) (result_flat at _ (declared_flat b f.stars flat)) (λ r flat.
    asked _ _ (λ known. asked _ _ (λ before. chained (begin_keeps f.name _) (λ a2. chained (free_name_keeps at f.name) (λ a3.
    chained (flat_number r flat) (λ a4. chained enter_keeps (λ a5. chained (params_keep at (is_some f.body) f.params) (λ ps. chained (know_keeps f.name _) (λ a6. chained (demand_keeps _ _ _) (λ a7.
    chained (body_keeps es r f.body full) (λ a8. leave_keeps)))))))))))))

-- ---- programs

directive_keeps : {quiet : Bool} (es : List EmbData) (n : ℕ) (e : Option EmbData) → Keeping quiet (directive_rule es n e)
directive_keeps es n None = pure_keeps _
directive_keeps es n (Some e) = chained (place_keeps e.line) (λ at. embedded_keeps es false false [] at n e)

top_keeps : {quiet : Bool} (es : List EmbData) (t : TopData) → OnlyIf quiet (IsFullTop t) → Keeping quiet (top_rule es t)
top_keeps es (include_top bytes) full = pure_keeps _
top_keeps es (directive_top n) full = directive_keeps es n (slice_get es n)
top_keeps es (decl_top d) full = declaration_keeps true d full
top_keeps es (func_top f) full = function_keeps es f full
top_keeps es (mark_top opens line) full = pure_keeps _

pub tops_keep : {quiet : Bool} (es : List EmbData) (ts : List TopData) → OnlyIf quiet (AreFullTops ts) → Keeping quiet (tops_rule es ts)
tops_keep es [] full = pure_keeps _
tops_keep {quiet = quiet} es (t ∷ ts) full = chained (top_keeps es t (if_then quiet (λ p. p.0) full)) (λ a. tops_keep es ts (if_then quiet (λ p. p.1) full))

-- `main` stands in the program
main_keeps : {quiet : Bool} (ts : List TopData) (at : Place) → Keeping quiet (main_rule ts at)
unfolding main_rule
main_keeps ts at = demand_keeps _ _ _

pub unit_keeps : {quiet : Bool} (u : UnitData) → OnlyIf quiet (AreFullTops u.tops) → Keeping quiet (unit_rule u)
unit_keeps u full = chained (tops_keep u.embs u.tops full) (λ a. chained (place_keeps u.last) (λ at. main_keeps u.tops at))
