-- Statements, functions and programs where nothing is wrong.
use Rattle.std.proofs.Common.{◌≡◌, ℕ, Bool, true, false, List, [], ◌∷◌, length, Option, Some, None, refl, sym, subst, slice_get}
use Rattle.std.specs.Prelude.{is_some}
use Rattle.std.proofs.lemmas.Bool.{false≢true}
use Rattle.ec_written_laws.specs.bound.Numbers.{stmt_numbers, kind_numbers, stmts_numbers, else_numbers, body_numbers, top_numbers, tops_numbers}
use Rattle.ec_ctypes.specs.trees.Types.{TyData}
use Rattle.ec_ctypes.specs.trees.Stmts.{StmtData, stmt, StmtKindData, empty_stmt, expr_stmt, block_stmt, if_stmt, while_stmt, do_stmt, for_stmt, break_stmt, continue_stmt, return_stmt, goto_stmt, label_stmt, decl_stmt, emb_stmt, mark_stmt, StmtList, no_stmts, stmts, StmtOption, no_stmt, some_stmt}
use Rattle.ec_ctypes.specs.trees.Embedded.{EmbData}
use Rattle.ec_ctypes.specs.trees.Units.{ParamData, FuncData, TopData, include_top, directive_top, decl_top, func_top, mark_top, UnitData}
use Rattle.ec_host_defs.specs.Programs.{is_among}
use Rattle.ec_language.specs.Letters.{Text}
use Rattle.ec_host_defs.specs.sections.Declared.{functions_of}
use Rattle.ec_typing_defs.specs.Tables.{find}
use Rattle.ec_typing_defs.specs.Operands.{declared_type}
use Rattle.ec_typing_defs.specs.Worlds.{Place, EntryData, object, function, ScopeData, World, Rule, change, next_number}
use Rattle.ec_typing_defs.specs.Statements.{Around, as_body, looping, as_item, embedded_at, statement, statement_kind, statements, otherwise, type_or_void}
use Rattle.ec_typing_defs.specs.Embedded.{embedded_rule}
use Rattle.ec_typing_defs.specs.Programs.{kept, may_be_result, may_be_param, result_rule, plain_param, pointer_to, array_param, param_type, declare_param, param, params, put_outside, begin_function, know_function, body_rule, function_rule, directive_rule, top_rule, tops_rule, main_rule, unit_rule}
use Rattle.ec_sim_world_laws.proofs.growth_lemmas.Rules as growth
use Rattle.ec_sim_world_laws.specs.closing.Closing.{IsTyped}
use Rattle.ec_sim_world_laws.specs.known.Positions.{IsBefore}
use Rattle.ec_sim_world_laws.proofs.known_lemmas.EntriesKept as entries
use Rattle.ec_sim_world_laws.proofs.known_lemmas.NamesRules.{Staying, demand_stays, place_stays, free_name_stays, label_stays}
use Rattle.ec_sim_world_laws.proofs.known_lemmas.NamesExpressions.{expr_stays, base_stays}
use Rattle.ec_sim_world_laws.proofs.known_lemmas.NamesStatements.{condition_stays, optional_stays, optional_condition_stays, return_stays, result_stays, new_labels_stay}
use Rattle.ec_sim_world_laws.proofs.known_lemmas.PositionsPassed.{items_are_passed, functions_are_numbered}
use Rattle.ec_sim_program_laws.specs.types.Types.{IsTypedEntry, AreAllTyped, AreTypedScopes, AllAreSimple}
use Rattle.ec_sim_program_laws.proofs.types_lemmas.Fits.{FitsStmt, FitsKind, FitStmts, FitsOther, FitsParam, FitParams, FitsBody, FitsTop, FitTops}
use Rattle.ec_sim_program_laws.proofs.types_lemmas.Rules as typing
use Rattle.ec_sim_program_laws.proofs.types_lemmas.Rules.{Any, NoMore, Typing, Sound, carried, constant, pure_types, asked_any, demanded, demand_types, change_types, place_types, enter_types, leave_types, free_name_types, declare_types, label_types, number_types, put_typed}
use Rattle.ec_sim_program_laws.proofs.types_lemmas.Operands.{within_kept, elements_kept, complete_kept}
use Rattle.ec_sim_program_laws.proofs.types_lemmas.Expressions.{IsAtom, AllSome, within_typed, declared_within, atom_typed, plain_base, expr_has, base_has, lengths_have}
use Rattle.ec_sim_program_laws.proofs.types_lemmas.Statements.{unsaid, declaration_types, condition_types, optional_types, optional_condition_types, return_types}
use Rattle.ec_sim_program_laws.proofs.types_lemmas.Walking.{Walking, chained, walked, walked_by, beside, to, from, asked, idle, resting, scoped_walks}
use Rattle.ec_sim_program_laws.proofs.types_lemmas.Embedded.{embedded_walks, none_walks}

-- ---- parameters and results

not_kept : (t : Option TyData) (b : Bool) → b ≡ true → IsTyped t → IsTyped (kept t b)
not_kept t true e h = h
not_kept t false e h = absurd (false≢true e)

pub result_types : (at : Place) (t : Option TyData) → Typing (λ w. IsTyped t) (λ w s. IsTyped s) (result_rule at t)
unfolding result_rule
result_types at t = demanded _ _ (may_be_result t) (λ u. pure_types _ (λ w r. not_kept t (may_be_result t) r.0 r.1))

plain_types : (at : Place) (t : Option TyData) → Typing (λ w. IsTyped t) (λ w s. IsTyped s) (plain_param at t)
unfolding plain_param
plain_types at t = demanded _ _ (may_be_param t) (λ u. pure_types _ (λ w r. not_kept t (may_be_param t) r.0 r.1))

pointer_typed : (t : Option TyData) → IsTyped t → IsTyped (pointer_to t)
pointer_typed None h = h
pointer_typed (Some t) h = tt

array_types : (at : Place) (t : Option TyData) → Typing (λ w. IsTyped t) (λ w s. IsTyped s) (array_param at t)
array_types at t = typing.chained (within_kept at t) (λ u. typing.chained (typing.from (λ w r. (r, r)) (complete_kept {R = λ w. IsTyped t} at t)) (λ s. pure_types _ (λ w r. pointer_typed s (subst IsTyped (sym r.0) r.1.1))))

param_typed : (at : Place) (t : Option TyData) (stars : ℕ) (ns : List (Option ℕ)) → Typing (λ w. IsAtom t × AllSome ns) (λ w s. IsTyped s) (param_type at t stars ns)
param_typed at t stars [] = typing.from (λ w r. atom_typed stars t r.0) (plain_types at (declared_type t stars []))
param_typed at t stars (None ∷ ns) = typing.from (λ w r. absurd r.1) (array_types at (declared_type t stars ns))
param_typed at t stars (Some n ∷ ns) = typing.from (λ w r. within_typed (length ns) (declared_type t stars ns) (declared_within t stars ns r.0 r.1)) (array_types at (declared_type t stars ns))

declare_param_types : (at : Place) (defined : Bool) (name : Option Text) (k : ℕ) (t : Option TyData) → Typing (λ w. IsTyped t) NoMore (declare_param at defined name k t)
declare_param_types at defined None k t = unsaid (demand_types _ _ _)
declare_param_types at defined (Some name) k t = declare_types at name (object k false t)

param_types : (at : Place) (defined : Bool) (q : ParamData) → FitsParam q → Typing Any (λ w t. IsTyped t) (param at defined q)
param_types at defined q h =
    typing.chained (plain_base q.base h.0 (base_has at q.base h.1)) (λ b. typing.chained (carried (λ w. IsAtom b) (constant (IsAtom b)) (lengths_have at q.dims h.2)) (λ sizes. typing.chained (elements_kept at b q.stars sizes) (λ u.
    typing.chained (typing.from (λ w r. (r.0, r.1.0)) (param_typed at b q.stars sizes)) (λ t. asked_any _ _ (λ k.
    typing.chained (typing.to (λ w a r. r.0) (typing.from (λ w r. (r, r)) (typing.beside (λ w. IsTyped t) (constant (IsTyped t)) (declare_param_types at defined q.name k t)))) (λ a.
    typing.chained (typing.to (λ w a r. r.0) (carried (λ w. IsTyped t) (constant (IsTyped t)) (number_types (type_or_void t)))) (λ c. pure_types t (λ w r. r))))))))

pub params_types : (at : Place) (defined : Bool) (qs : List ParamData) → FitParams qs → Typing Any (λ w ts. AreAllTyped ts) (params at defined qs)
params_types at defined [] h = pure_types [] (λ w r. tt)
params_types at defined (q ∷ qs) h =
    typing.chained (param_types at defined q h.0) (λ t. typing.chained (carried (λ w. IsTyped t) (constant (IsTyped t)) (params_types at defined qs h.1)) (λ ts. pure_types (t ∷ ts) (λ w r. r)))

-- ---- the names of functions

pub begin_types : (name : Text) (k : ℕ) (done : Bool) (r : Option TyData) → Typing (λ w. IsTyped r) NoMore (begin_function name (function k done r None))
unfolding begin_function
begin_types name k done r = change_types _ (growth.names_grow _ (λ w. refl)) (λ w. refl) (λ w sound h.
    (record { here = put_typed name (function k done r None) w.here.names (h, tt) sound.here; outer = sound.outer; structs = sound.structs }, tt))

pub outside_typed : (name : Text) (entry : EntryData) (ss : List ScopeData) → IsTypedEntry entry → AreTypedScopes ss → AreTypedScopes (put_outside name entry ss)
outside_typed name entry [] h all = tt
outside_typed name entry (s ∷ ss) h all = (put_typed name entry s.names h all.0, all.1)

pub know_types : (name : Text) (k : ℕ) (done : Bool) (r : Option TyData) (ps : List (Option TyData)) → Typing (λ w. IsTyped r × AreAllTyped ps) NoMore (know_function name (function k done r (Some ps)))
unfolding know_function
know_types name k done r ps = change_types _ (growth.names_grow _ (λ w. refl)) (λ w. refl) (λ w sound h.
    (record { here = sound.here; outer = outside_typed name (function k done r (Some ps)) w.outer h sound.outer; structs = sound.structs }, tt))

pub labels_types : Typing Any NoMore (change (λ w. record w { labels = [] }))
labels_types = change_types _ (growth.names_grow _ (λ w. refl)) (λ w. refl) (λ w sound r. (record { here = sound.here; outer = sound.outer; structs = sound.structs }, tt))

-- ---- by a program whose statements are read so

module _ (u : UnitData) (simple : AllAreSimple u.embs) where
  at_walks : (a : Around) → a.embs ≡ u.embs → (at : Place) (n : ℕ) (more : List ℕ) (o : Option EmbData) → slice_get u.embs n ≡ o → Walking u (n ∷ more) more Any NoMore (embedded_at a at n o)
  at_walks a same at n more None is = none_walks u n more is
  at_walks a same at n more (Some e) is =
      subst (λ es. Walking u (n ∷ more) more Any NoMore (embedded_rule es a.is_body a.in_loop a.labels at n e)) (sym same) (embedded_walks u a.is_body a.in_loop a.labels at n more e is (simple n e is))

  mutual
    statement_walks : (a : Around) → a.embs ≡ u.embs → (s : StmtData) (more : List ℕ) → FitsStmt s → Walking u (stmt_numbers s more) more Any NoMore (statement a s)
    statement_walks a same (stmt line kind) more h = chained (resting (place_stays line) (place_types line)) (λ at. kind_walks a same at kind more h)

    kind_walks : (a : Around) → a.embs ≡ u.embs → (at : Place) (kind : StmtKindData) (more : List ℕ) → FitsKind kind → Walking u (kind_numbers kind more) more Any NoMore (statement_kind a at kind)
    kind_walks a same at empty_stmt more h = idle tt
    kind_walks a same at (expr_stmt e) more h = chained (resting (expr_stays at e) (unsaid (expr_has at e h))) (λ o. idle tt)
    kind_walks a same at (block_stmt ss) more h = scoped_walks (statements_walk (as_item a) same ss more h)
    kind_walks a same at (if_stmt e s other) more h =
        scoped_walks (chained (resting (condition_stays at e) (condition_types at e h.0)) (λ x. chained (scoped_walks (statement_walks (as_body a) same s (else_numbers other more) h.1)) (λ y. other_walks (as_body a) same other more h.2)))
    kind_walks a same at (while_stmt e s) more h =
        scoped_walks (chained (resting (condition_stays at e) (condition_types at e h.0)) (λ x. scoped_walks (statement_walks (looping a) same s more h.1)))
    kind_walks a same at (do_stmt s e) more h =
        scoped_walks (chained (scoped_walks (statement_walks (looping a) same s more h.0)) (λ x. resting (condition_stays at e) (condition_types at e h.1)))
    kind_walks a same at (for_stmt x y z s) more h =
        scoped_walks (chained (resting (optional_stays at x) (optional_types at x h.0)) (λ b. chained (resting (optional_condition_stays at y) (optional_condition_types at y h.1)) (λ c.
        chained (resting (optional_stays at z) (optional_types at z h.2)) (λ d. scoped_walks (statement_walks (looping a) same s more h.3)))))
    kind_walks a same at break_stmt more h = resting (demand_stays _ _ _) (unsaid (demand_types _ _ _))
    kind_walks a same at continue_stmt more h = resting (demand_stays _ _ _) (unsaid (demand_types _ _ _))
    kind_walks a same at (return_stmt e) more h = resting (return_stays at a.result e) (return_types at a.result e h)
    kind_walks a same at (goto_stmt l) more h = resting (demand_stays _ _ _) (unsaid (demand_types _ _ _))
    kind_walks a same at (label_stmt l s) more h = chained (resting (label_stays at l) (label_types at l)) (λ x. statement_walks (as_body a) same s more h)
    kind_walks a same at (decl_stmt d) more h = walked (entries.declaration_keeps u false d) (declaration_types false d h)
    kind_walks a same at (emb_stmt n) more h =
        subst (λ es. Walking u (n ∷ more) more Any NoMore (embedded_at a at n (slice_get es n))) (sym same) (at_walks a same at n more (slice_get u.embs n) refl)
    kind_walks a same at (mark_stmt opens) more h = idle tt

    statements_walk : (a : Around) → a.embs ≡ u.embs → (ss : StmtList) (more : List ℕ) → FitStmts ss → Walking u (stmts_numbers ss more) more Any NoMore (statements a ss)
    statements_walk a same no_stmts more h = idle tt
    statements_walk a same (stmts s ss) more h = chained (statement_walks a same s (stmts_numbers ss more) h.0) (λ x. statements_walk a same ss more h.1)

    other_walks : (a : Around) → a.embs ≡ u.embs → (o : StmtOption) (more : List ℕ) → FitsOther o → Walking u (else_numbers o more) more Any NoMore (otherwise a o)
    other_walks a same no_stmt more h = idle tt
    other_walks a same (some_stmt s) more h = scoped_walks (statement_walks a same s more h)

  -- ---- functions

  -- the next declaration is that of a function
  abbrev IsNext : World → Type 0
  IsNext w = is_among (length w.types) (functions_of u) ≡ true

  -- it is so behind a rule that declares nothing
  still_next : {A : Type 0} {ns : List ℕ} {R : World → Type 0} {P : World → A → Type 0} {m : Rule A} → Staying m → Typing R P m → Walking u ns ns (λ w. IsNext w × R w) (λ w a. IsNext w × P w a) m
  still_next {A} {ns} {R} {P} {m} s h = record {
    growing = h.growing;
    walks = λ w known r found shallow.
        let p = inner.walks w known r.1 found shallow in
        (p.0, (subst (λ ts. is_among (length ts) (functions_of u) ≡ true) (sym (s.stays w).types) r.0, p.1));
  }
    where
      inner : Walking u ns ns R P m
      inner = resting s h

  -- what has nothing to do with what is known
  holding : {A : Type 0} {ns more : List ℕ} {P : World → A → Type 0} {m : Rule A} (C : Type 0) → Walking u ns more (λ w. C) P m → Walking u ns more (λ w. C) (λ w a. C) m
  holding C h = to (λ w a r. r.0) (from (λ w c. (c, c)) (beside C h))

  body_walks : (r : Option TyData) (b : Option StmtList) (more : List ℕ) → FitsBody b → Walking u (body_numbers b more) more Any NoMore (body_rule u.embs r b)
  body_walks r None more h = idle tt
  body_walks r (Some ss) more h = chained (resting new_labels_stay labels_types) (λ a. statements_walk _ refl ss more h)

  -- the number and the result of a function
  abbrev Function : ℕ → Option TyData → Type 0
  Function k r = (is_among k (functions_of u) ≡ true) × IsTyped r

  function_walks : (f : FuncData) (more : List ℕ) → FitsTop (func_top f) → Walking u (body_numbers f.body more) more IsNext NoMore (function_rule u.embs f)
  function_walks f more h =
      chained (from (λ w r. (r, tt)) (still_next (place_stays f.line) (place_types f.line))) (λ at.
      chained (from (λ w r. (r.0, tt)) (still_next (base_stays at f.base) (plain_base f.base h.0 (base_has at f.base h.1)))) (λ b.
      chained (from (λ w x. (x.0, atom_typed f.stars b x.1)) (still_next (result_stays at (declared_type b f.stars [])) (result_types at (declared_type b f.stars [])))) (λ r.
      asked next_number _ (λ w k. Function k r) (λ w x. x) (λ k.
      asked (λ w. find f.name w.here.names) _ (λ w before. Function k r) (λ w x. x) (λ before.
      chained (holding (Function k r) (walked_by (λ w c has. (entries.begin_keeps u f.name k _ r c.0).keeps w has) (typing.from (λ w c. c.1) (begin_types f.name k _ r)))) (λ a2.
      chained (holding (Function k r) (from (λ w c. tt) (resting (free_name_stays at f.name) (free_name_types {R = Any} at f.name)))) (λ a3.
      chained (holding (Function k r) (from (λ w c. tt) (walked (entries.number_keeps u (type_or_void r)) (number_types (type_or_void r))))) (λ a4.
      chained (holding (Function k r) (from (λ w c. tt) (walked (entries.enter_keeps u) enter_types))) (λ a5.
      chained (from (λ w c. (c, tt)) (beside (Function k r) (walked (entries.params_keep u at (is_some f.body) f.params) (params_types at (is_some f.body) f.params h.2)))) (λ ps.
      chained (walked_by (λ w c has. (entries.know_keeps u f.name k _ r (Some ps) c.0.0).keeps w has) (typing.from (λ w c. (c.0.1, c.1)) (know_types f.name k _ r ps))) (λ a6.
      chained (resting (demand_stays _ _ _) (unsaid (demand_types _ _ _))) (λ a7.
      chained (body_walks r f.body more h.3) (λ a8. walked (entries.leave_keeps u) leave_types)))))))))))))

  -- ---- programs

  directive_walks : (n : ℕ) (more : List ℕ) (o : Option EmbData) → slice_get u.embs n ≡ o → Walking u (n ∷ more) more Any NoMore (directive_rule u.embs n o)
  directive_walks n more None is = none_walks u n more is
  directive_walks n more (Some e) is = chained (resting (place_stays e.line) (place_types e.line)) (λ at. embedded_walks u false false [] at n more e is (simple n e is))

  top_walks : (t : TopData) (ts : List TopData) (more : List ℕ) → FitsTop t → Walking u (top_numbers t more) more (IsBefore u (t ∷ ts)) NoMore (top_rule u.embs t)
  top_walks (include_top bytes) ts more h = from (λ w r. tt) (idle tt)
  top_walks (directive_top n) ts more h = from (λ w r. tt) (directive_walks n more (slice_get u.embs n) refl)
  top_walks (decl_top d) ts more h = from (λ w r. tt) (walked (entries.declaration_keeps u true d) (declaration_types true d h))
  top_walks (func_top f) ts more h = from (λ w r. functions_are_numbered u f ts w r) (function_walks f more h)
  top_walks (mark_top opens line) ts more h = from (λ w r. tt) (idle tt)

  -- behind it stand the others
  passed : (t : TopData) (ts : List TopData) {ns more : List ℕ} → Walking u ns more (IsBefore u (t ∷ ts)) NoMore (top_rule u.embs t)
      → Walking u ns more (IsBefore u (t ∷ ts)) (λ w a. IsBefore u ts w) (top_rule u.embs t)
  passed t ts h = record {
    growing = h.growing;
    walks = λ w known r found shallow. ((h.walks w known r found shallow).0, items_are_passed u u.embs t ts w r);
  }

  tops_walk : (ts : List TopData) → FitTops ts → Walking u (tops_numbers ts []) [] (IsBefore u ts) NoMore (tops_rule u.embs ts)
  tops_walk [] h = from (λ w r. tt) (idle tt)
  tops_walk (t ∷ ts) h = chained (passed t ts (top_walks t ts (tops_numbers ts []) h.0)) (λ a. tops_walk ts h.1)

  main_stays : (ts : List TopData) (at : Place) → Staying (main_rule ts at)
  unfolding main_rule
  main_stays ts at = demand_stays _ _ _

  main_types : (ts : List TopData) (at : Place) → Typing Any NoMore (main_rule ts at)
  unfolding main_rule
  main_types ts at = unsaid (demand_types _ _ _)

  pub unit_walks : FitTops u.tops → Walking u (tops_numbers u.tops []) [] (IsBefore u u.tops) NoMore (unit_rule u)
  unit_walks h = chained (tops_walk u.tops h) (λ a. chained (resting (place_stays u.last) (place_types u.last)) (λ at. resting (main_stays u.tops at) (main_types u.tops at)))
