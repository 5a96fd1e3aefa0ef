-- The declarations that are still to come behind declarations, statements, functions and the items of a program.
use Rattle.std.proofs.Common.{ℕ, Bool, true, false, List, [], ◌∷◌, ◌++◌, length, refl, Option, Some, None, arith, ◌+◌, ◌≡◌}
use Rattle.std.specs.Prelude.{slice_get, is_some}
use Rattle.ec_ctypes.specs.trees.Types.{TyData}
use Rattle.ec_ctypes.specs.trees.Exprs.{DeclaratorData, declarator, DeclaratorList, no_declarators, declarators, DeclData, decl}
use Rattle.ec_ctypes.specs.trees.Stmts.{StmtData, stmt, StmtKindData, empty_stmt, expr_stmt, block_stmt, if_stmt, while_stmt, do_stmt, for_stmt, break_stmt, continue_stmt, return_stmt, goto_stmt, label_stmt, decl_stmt, emb_stmt, mark_stmt, StmtList, no_stmts, stmts, StmtOption, no_stmt, some_stmt}
use Rattle.ec_ctypes.specs.trees.Embedded.{EmbData}
use Rattle.ec_ctypes.specs.trees.Units.{ParamData, FuncData, TopData, include_top, directive_top, decl_top, func_top, mark_top}
use Rattle.ec_language.specs.Letters.{Text}
use Rattle.ec_host_defs.specs.sections.Declared.{DeclaredData, an_object, declared_items, declared_by, declared_in, declared_in_kind, declared_in_all, declared_in_option, declared_params, declared_in_body, declared_function, declared_in_top, declared_in_tops}
use Rattle.ec_typing_defs.specs.Worlds.{Place, EntryData}
use Rattle.ec_typing_defs.specs.Expressions.{is_varchar, has_init}
use Rattle.ec_typing_defs.specs.Statements.{object_item, object_items, declaration, Around, as_body, looping, as_item, embedded_at, statement, statement_kind, statements, otherwise}
use Rattle.ec_typing_defs.specs.Programs.{declare_param, param, params, begin_function, know_function, body_rule, function_rule, directive_rule, top_rule}
use Rattle.ec_sim_world_laws.specs.known.Positions.{StartsBeforeAll, ItemsArePassed, FunctionsAreNumbered, TypesDeclareNone}
use Rattle.ec_sim_world_laws.proofs.known_lemmas.NamesRules.{demand_stays, place_stays, free_name_stays, label_stays}
use Rattle.ec_sim_world_laws.proofs.known_lemmas.NamesOperands.{elements_stays, within_stays}
use Rattle.ec_sim_world_laws.proofs.known_lemmas.NamesExpressions.{expr_stays, base_stays, lengths_stay}
use Rattle.ec_sim_world_laws.proofs.known_lemmas.NamesEmbedded.{embedded_stays}
use Rattle.ec_sim_world_laws.proofs.known_lemmas.NamesStatements.{object_stays, initial_stays, type_stays, specifier_stays, condition_stays, optional_stays, optional_condition_stays, return_stays, result_stays, param_type_stays, new_labels_stay}
use Rattle.ec_sim_world_laws.proofs.known_lemmas.PositionsRules.{function_among, Passing, both, behind, before, none, asked, pure_passes, change_passes, number_passes, enter_passes, leave_passes, scoped_passes, declare_passes, better_passes}

-- ---- declarations

item_passes : (d : DeclaredData) (at : Place) (global v : Bool) (t : Option TyData) (o : DeclaratorData) → Passing (d ∷ []) (object_item at global v t o)
item_passes d at global v t (declarator stars name ns init) =
    behind (none (type_stays at v t stars name ns)) (λ whole. behind (none (within_stays at whole)) (λ a. behind (none (object_stays at (has_init init) whole)) (λ first. asked _ _ (λ known. behind (declare_passes at name _) (λ b.
    behind (none (initial_stays at global first init)) (λ ty. behind (none (within_stays at ty)) (λ c. behind (better_passes name _) (λ e. number_passes d _))))))))

items_pass : (section : Bool) (at : Place) (global v : Bool) (t : Option TyData) (ds : DeclaratorList) → Passing (declared_items section ds) (object_items at global v t ds)
items_pass section at global v t no_declarators = pure_passes _
items_pass section at global v t (declarators d ds) =
    both (an_object section ∷ []) (declared_items section ds) (item_passes (an_object section) at global v t d) (λ a. items_pass section at global v t ds)

declaration_passes : (global : Bool) (d : DeclData) → Passing (declared_by d) (declaration global d)
declaration_passes global (decl b items section line) =
    behind (none (place_stays line)) (λ at. behind (none (specifier_stays at b items)) (λ t. items_pass section at global (is_varchar b) t items))

-- ---- statements

embedded_at_passes : (a : Around) (at : Place) (n : ℕ) (e : Option EmbData) → Passing [] (embedded_at a at n e)
embedded_at_passes a at n None = pure_passes _
embedded_at_passes a at n (Some e) = none (embedded_stays a.embs a.is_body a.in_loop a.labels at n e)

mutual
  statement_passes : (a : Around) (s : StmtData) → Passing (declared_in s) (statement a s)
  statement_passes a (stmt line kind) = behind (none (place_stays line)) (λ at. kind_passes a at kind)

  kind_passes : (a : Around) (at : Place) (kind : StmtKindData) → Passing (declared_in_kind kind) (statement_kind a at kind)
  kind_passes a at empty_stmt = pure_passes _
  kind_passes a at (expr_stmt e) = behind (none (expr_stays at e)) (λ o. pure_passes _)
  kind_passes a at (block_stmt ss) = scoped_passes (statements_pass (as_item a) ss)
  kind_passes a at (if_stmt e s other) =
      scoped_passes (behind (none (condition_stays at e)) (λ x. both (declared_in s) (declared_in_option other) (scoped_passes (statement_passes (as_body a) s)) (λ y. otherwise_passes (as_body a) other)))
  kind_passes a at (while_stmt e s) = scoped_passes (behind (none (condition_stays at e)) (λ x. scoped_passes (statement_passes (looping a) s)))
  kind_passes a at (do_stmt s e) = scoped_passes (before (scoped_passes (statement_passes (looping a) s)) (λ x. none (condition_stays at e)))
  kind_passes a at (for_stmt x y z s) =
      scoped_passes (behind (none (optional_stays at x)) (λ b. behind (none (optional_condition_stays at y)) (λ c. behind (none (optional_stays at z)) (λ d. scoped_passes (statement_passes (looping a) s)))))
  kind_passes a at break_stmt = none (demand_stays _ _ _)
  kind_passes a at continue_stmt = none (demand_stays _ _ _)
  kind_passes a at (return_stmt e) = none (return_stays at a.result e)
  kind_passes a at (goto_stmt l) = none (demand_stays _ _ _)
  kind_passes a at (label_stmt l s) = behind (none (label_stays at l)) (λ x. statement_passes (as_body a) s)
  kind_passes a at (decl_stmt d) = declaration_passes false d
  kind_passes a at (emb_stmt n) = embedded_at_passes a at n (slice_get a.embs n)
  kind_passes a at (mark_stmt opens) = pure_passes _

  statements_pass : (a : Around) (ss : StmtList) → Passing (declared_in_all ss) (statements a ss)
  statements_pass a no_stmts = pure_passes _
  statements_pass a (stmts s ss) = both (declared_in s) (declared_in_all ss) (statement_passes a s) (λ x. statements_pass a ss)

  otherwise_passes : (a : Around) (o : StmtOption) → Passing (declared_in_option o) (otherwise a o)
  otherwise_passes a no_stmt = pure_passes _
  otherwise_passes a (some_stmt s) = scoped_passes (statement_passes a s)

-- ---- functions

declare_param_passes : (at : Place) (defined : Bool) (name : Option Text) (k : ℕ) (t : Option TyData) → Passing [] (declare_param at defined name k t)
declare_param_passes at defined None k t = none (demand_stays _ _ _)
declare_param_passes at defined (Some name) k t = declare_passes at name _

param_passes : (d : DeclaredData) (at : Place) (defined : Bool) (q : ParamData) → Passing (d ∷ []) (param at defined q)
param_passes d at defined q =
    behind (none (base_stays at q.base)) (λ b. behind (none (lengths_stay at q.dims)) (λ sizes. behind (none (elements_stays at b q.stars sizes)) (λ u. behind (none (param_type_stays at b q.stars sizes)) (λ t. asked _ _ (λ known. behind (declare_param_passes at defined q.name _ t) (λ a. before (number_passes d _) (λ e. pure_passes _)))))))

params_pass : (at : Place) (defined : Bool) (qs : List ParamData) → Passing (declared_params qs) (params at defined qs)
params_pass at defined [] = pure_passes _
params_pass at defined (q ∷ qs) =
    both (an_object q.section ∷ []) (declared_params qs) (param_passes (an_object q.section) at defined q) (λ t. before (params_pass at defined qs) (λ ts. pure_passes _))

begin_passes : (name : Text) (entry : EntryData) → Passing [] (begin_function name entry)
unfolding begin_function
begin_passes name entry = change_passes _ (λ w. refl)

know_passes : (name : Text) (entry : EntryData) → Passing [] (know_function name entry)
unfolding know_function
know_passes name entry = change_passes _ (λ w. refl)

body_passes : (es : List EmbData) (r : Option TyData) (b : Option StmtList) → Passing (declared_in_body b) (body_rule es r b)
body_passes es r None = pure_passes _
body_passes es r (Some ss) = behind (none new_labels_stay) (λ a. statements_pass _ ss)

function_passes : (es : List EmbData) (f : FuncData) → Passing (declared_function f) (function_rule es f)
function_passes es f =
    behind (none (place_stays f.line)) (λ at. behind (none (base_stays at f.base)) (λ b. behind (none (result_stays at _)) (λ r. asked _ _ (λ known. asked _ _ (λ first. behind (begin_passes f.name _) (λ a2. behind (none (free_name_stays at f.name)) (λ a3.
    both (record { section = f.section; is_function = true } ∷ []) (declared_params f.params ++ declared_in_body f.body) (number_passes _ _) (λ a4. behind enter_passes (λ a5.
    both (declared_params f.params) (declared_in_body f.body) (params_pass at (is_some f.body) f.params) (λ ps. behind (know_passes f.name _) (λ a6. behind (none (demand_stays _ _ _)) (λ a7.
    before (body_passes es r f.body) (λ a8. leave_passes)))))))))))))

-- ---- the items of a program

directive_passes : (es : List EmbData) (n : ℕ) (e : Option EmbData) → Passing [] (directive_rule es n e)
directive_passes es n None = pure_passes _
directive_passes es n (Some e) = behind (none (place_stays e.line)) (λ at. none (embedded_stays es false false [] at n e))

top_passes : (es : List EmbData) (t : TopData) → Passing (declared_in_top t) (top_rule es t)
top_passes es (include_top bytes) = pure_passes _
top_passes es (directive_top n) = directive_passes es n (slice_get es n)
top_passes es (decl_top d) = declaration_passes true d
top_passes es (func_top f) = function_passes es f
top_passes es (mark_top opens line) = pure_passes _

pub starts_before_all : StartsBeforeAll
starts_before_all written u = refl

pub items_are_passed : ItemsArePassed
items_are_passed u es t ts w stands = (top_passes es t).passes (declared_in_tops u.tops) (declared_in_tops ts) w stands

pub functions_are_numbered : FunctionsAreNumbered
functions_are_numbered u f ts w stands =
    function_among 0 (length w.types) (length w.types) (declared_in_tops u.tops) ((declared_params f.params ++ declared_in_body f.body) ++ declared_in_tops ts) (record { section = f.section; is_function = true })
    (from_none (length w.types)) stands refl
  where
    from_none : (n : ℕ) → n ≡ 0 + n
    from_none n = omega (arith)

pub types_declare_none : TypesDeclareNone
types_declare_none at b w = ((base_stays at b).stays w).types
