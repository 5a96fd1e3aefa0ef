-- Statements, functions and programs without embedded statements have types where nothing is wrong.
use Rattle.std.proofs.Common.{Bool, true, false, ℕ, List, [], ◌∷◌, Option, Some, None}
use Rattle.std.specs.Prelude.{is_some, ◌||◌}
use Rattle.ec_base.specs.declared.fault.FaultKind.TheVariants.{F10}
use Rattle.ec_ctypes.specs.trees.Types.{TyData}
use Rattle.ec_ctypes.specs.trees.Stmts.{StmtData, stmt, StmtKindData, empty_stmt, expr_stmt, block_stmt, if_stmt, while_stmt, do_stmt, for_stmt, break_stmt, continue_stmt, return_stmt, goto_stmt, label_stmt, decl_stmt, emb_stmt, mark_stmt, StmtList, no_stmts, stmts, StmtOption, no_stmt, some_stmt}
use Rattle.ec_ctypes.specs.trees.Embedded.{EmbData}
use Rattle.ec_ctypes.specs.trees.Units.{FuncData, TopData, include_top, directive_top, decl_top, func_top, mark_top}
use Rattle.ec_typing_defs.specs.Operands.{declared_type}
use Rattle.ec_typing_defs.specs.Expressions.{base}
use Rattle.ec_typing_defs.specs.Tables.{find}
use Rattle.ec_typing_defs.specs.Worlds.{Place, function, EntryData, World, Rule, next_number, number_as, free_name, demand, enter, leave, place, chain as check_chain, ask as check_ask}
use Rattle.ec_typing_defs.specs.Statements.{Around, as_body, looping, as_item, statement, statement_kind, statements, otherwise, type_or_void}
use Rattle.ec_typing_defs.specs.Programs.{result_rule, params, is_done, may_follow, begin_function, know_function, body_rule, function_rule, top_rule, tops_rule}
use Rattle.ec_sim_world_laws.specs.closing.Closing.{IsTyped}
use Rattle.ec_sim_program_laws.specs.types.Types.{AreAllTyped}
use Rattle.ec_sim_program_laws.proofs.types_lemmas.Fits.{FitsStmt, FitsKind, FitStmts, FitsOther, FitsBody, FitsTop, FitTops}
use Rattle.ec_sim_program_laws.proofs.types_lemmas.Rules.{Any, NoMore, Typing, chained, from, to, beside, carried, constant, pure_types, asked_any, demand_types, place_types, enter_types, leave_types, scoped_types, free_name_types, label_types, number_types}
use Rattle.ec_sim_program_laws.proofs.types_lemmas.Expressions.{atom_typed, plain_base, expr_has, base_has}
use Rattle.ec_sim_program_laws.proofs.types_lemmas.Programs.{result_types, params_types, begin_types, know_types, labels_types}
use Rattle.ec_sim_program_laws.proofs.types_lemmas.Statements.{unsaid, declaration_types, condition_types, optional_types, optional_condition_types, return_types}
use Rattle.ec_sound_program_laws.specs.Plain.{StmtIsPlain, KindIsPlain, StmtsArePlain, OtherIsPlain, BodyIsPlain, TopIsPlain, TopsArePlain}

-- ---- statements

mutual
  pub statement_types : (a : Around) (s : StmtData) → FitsStmt s → StmtIsPlain s → Typing Any NoMore (statement a s)
  statement_types a (stmt line kind) h p = chained (place_types line) (λ at. kind_types a at kind h p)

  kind_types : (a : Around) (at : Place) (kind : StmtKindData) → FitsKind kind → KindIsPlain kind → Typing Any NoMore (statement_kind a at kind)
  kind_types a at empty_stmt h p = pure_types tt (λ w r. tt)
  kind_types a at (expr_stmt e) h p = chained (expr_has at e h) (λ o. pure_types tt (λ w r. tt))
  kind_types a at (block_stmt ss) h p = scoped_types (statements_types (as_item a) ss h p)
  kind_types a at (if_stmt e s other) h p =
      scoped_types (chained (condition_types at e h.0) (λ x. chained (scoped_types (statement_types (as_body a) s h.1 p.1)) (λ y. other_types (as_body a) other h.2 p.2)))
  kind_types a at (while_stmt e s) h p = scoped_types (chained (condition_types at e h.0) (λ x. scoped_types (statement_types (looping a) s h.1 p.1)))
  kind_types a at (do_stmt s e) h p = scoped_types (chained (scoped_types (statement_types (looping a) s h.0 p.0)) (λ x. condition_types at e h.1))
  kind_types a at (for_stmt x y z s) h p =
      scoped_types (chained (optional_types at x h.0) (λ b. chained (optional_condition_types at y h.1) (λ c. chained (optional_types at z h.2) (λ d. scoped_types (statement_types (looping a) s h.3 p.3)))))
  kind_types a at break_stmt h p = unsaid (demand_types {R = Any} _ _ _)
  kind_types a at continue_stmt h p = unsaid (demand_types {R = Any} _ _ _)
  kind_types a at (return_stmt e) h p = return_types at a.result e h
  kind_types a at (goto_stmt l) h p = unsaid (demand_types {R = Any} _ _ _)
  kind_types a at (label_stmt l s) h p = chained (label_types at l) (λ x. statement_types (as_body a) s h p)
  kind_types a at (decl_stmt d) h p = declaration_types false d h
  kind_types a at (emb_stmt n) h p = absurd p
  kind_types a at (mark_stmt opens) h p = pure_types tt (λ w r. tt)

  pub statements_types : (a : Around) (ss : StmtList) → FitStmts ss → StmtsArePlain ss → Typing Any NoMore (statements a ss)
  statements_types a no_stmts h p = pure_types tt (λ w r. tt)
  statements_types a (stmts s ss) h p = chained (statement_types a s h.0 p.0) (λ x. statements_types a ss h.1 p.1)

  other_types : (a : Around) (o : StmtOption) → FitsOther o → OtherIsPlain o → Typing Any NoMore (otherwise a o)
  other_types a no_stmt h p = pure_types tt (λ w r. tt)
  other_types a (some_stmt s) h p = scoped_types (statement_types a s h p)

-- ---- functions

body_types : (es : List EmbData) (r : Option TyData) (b : Option StmtList) → FitsBody b → BodyIsPlain b → Typing Any NoMore (body_rule es r b)
body_types es r None h p = pure_types tt (λ w r. tt)
body_types es r (Some ss) h p = chained labels_types (λ a. statements_types _ ss h p)

-- what has nothing to do with what is known holds behind it too
holding : {A : Type 0} {P : World → A → Type 0} {m : Rule A} (C : Type 0) → Typing (λ w. C) P m → Typing (λ w. C) (λ w a. C) m
holding C h = to (λ w a r. r.0) (from (λ w c. (c, c)) (beside (λ w. C) (constant C) h))

-- behind its parameters
abbrev pub checked_rest : List EmbData → FuncData → Place → ℕ → Bool → Option TyData → Option EntryData → List (Option TyData) → Rule (Unit {0})
checked_rest es f at k done r before ps =
    check_chain (know_function f.name (function k done r (Some ps))) (λ _. check_chain (demand at F10 (may_follow (is_some f.body) r ps before)) (λ _. check_chain (body_rule es r f.body) (λ _. leave)))

-- from the scope of its parameters on
abbrev pub checked_listed : List EmbData → FuncData → Place → ℕ → Bool → Option TyData → Option EntryData → Rule (Unit {0})
checked_listed es f at k done r before =
    check_chain (number_as (type_or_void r)) (λ _. check_chain enter (λ _. check_chain (params at (is_some f.body) f.params) (λ ps. checked_rest es f at k done r before ps)))

-- behind its result
abbrev pub checked_behind : List EmbData → FuncData → Place → Option TyData → Rule (Unit {0})
checked_behind es f at r =
    check_chain (check_ask next_number) (λ k. check_chain (check_ask (λ w. find f.name w.here.names)) (λ before. check_chain (begin_function f.name (function k (is_done before || is_some f.body) r None)) (λ _. check_chain (free_name at f.name) (λ _.
    checked_listed es f at k (is_done before || is_some f.body) r before))))

pub rest_types : (es : List EmbData) (f : FuncData) (at : Place) (k : ℕ) (done : Bool) (r : Option TyData) (before : Option EntryData) (ps : List (Option TyData)) → FitsBody f.body → BodyIsPlain f.body
    → Typing (λ w. IsTyped r × AreAllTyped ps) NoMore (checked_rest es f at k done r before ps)
rest_types es f at k done r before ps h p =
    chained (know_types f.name k done r ps) (λ a. chained (unsaid (demand_types {R = Any} _ _ _)) (λ b. chained (body_types es r f.body h p) (λ c. leave_types)))

pub behind_types : (es : List EmbData) (f : FuncData) (at : Place) (r : Option TyData) → FitsTop (func_top f) → BodyIsPlain f.body → Typing (λ w. IsTyped r) NoMore (checked_behind es f at r)
behind_types es f at r h p =
    asked_any _ _ (λ k. asked_any _ _ (λ before.
    chained (holding (IsTyped r) (begin_types f.name k _ r)) (λ a.
    chained (holding (IsTyped r) (free_name_types {R = λ w. IsTyped r} at f.name)) (λ b.
    chained (holding (IsTyped r) (from (λ w c. tt) (number_types (type_or_void r)))) (λ c.
    chained (holding (IsTyped r) (from (λ w c. tt) enter_types)) (λ d.
    chained (carried (λ w. IsTyped r) (constant (IsTyped r)) (params_types at (is_some f.body) f.params h.2)) (λ ps. rest_types es f at k _ r before ps h.3 p)))))))

-- up to its result
abbrev pub checked_head : FuncData → Rule (Option TyData)
checked_head f = check_chain (place f.line) (λ at. check_chain (base at f.base) (λ b. result_rule at (declared_type b f.stars [])))

pub head_types : (f : FuncData) → FitsTop (func_top f) → Typing Any (λ w r. IsTyped r) (checked_head f)
head_types f h = chained (place_types f.line) (λ at. chained (plain_base f.base h.0 (base_has at f.base h.1)) (λ b. from (λ w r. atom_typed f.stars b r) (result_types at (declared_type b f.stars []))))

pub function_types : (es : List EmbData) (f : FuncData) → FitsTop (func_top f) → BodyIsPlain f.body → Typing Any NoMore (function_rule es f)
function_types es f h p =
    chained (place_types f.line) (λ at. chained (plain_base f.base h.0 (base_has at f.base h.1)) (λ b.
    chained (from (λ w r. atom_typed f.stars b r) (result_types at (declared_type b f.stars []))) (λ r. behind_types es f at r h p)))

-- ---- programs

pub top_types : (es : List EmbData) (t : TopData) → FitsTop t → TopIsPlain t → Typing Any NoMore (top_rule es t)
top_types es (include_top bytes) h p = pure_types tt (λ w r. tt)
top_types es (directive_top n) h p = absurd p
top_types es (decl_top d) h p = declaration_types true d h
top_types es (func_top f) h p = function_types es f h p
top_types es (mark_top opens line) h p = pure_types tt (λ w r. tt)

pub tops_types : (es : List EmbData) (ts : List TopData) → FitTops ts → TopsArePlain ts → Typing Any NoMore (tops_rule es ts)
tops_types es [] h p = pure_types tt (λ w r. tt)
tops_types es (t ∷ ts) h p = chained (top_types es t h.0 p.0) (λ a. tops_types es ts h.1 p.1)
