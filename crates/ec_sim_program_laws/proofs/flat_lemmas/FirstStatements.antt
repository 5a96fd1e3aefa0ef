-- How many first types structs have behind declarations and statements.
use Rattle.std.proofs.Common.{◌≡◌, ◌≤◌, ℕ, suc, ◌+◌, Bool, true, false, refl, Option, Some, None, slice_get, arith}
use Rattle.ec_ctypes.specs.trees.Types.{TyData}
use Rattle.ec_ctypes.specs.trees.Exprs.{ExprData, BaseData, words, varchar, tagged, struct_base, DimList, InitOption, no_init, some_init, DeclaratorData, declarator, DeclaratorList, no_declarators, declarators, DeclData, decl}
use Rattle.ec_ctypes.specs.trees.Stmts.{StmtData, stmt, StmtKindData, empty_stmt, expr_stmt, block_stmt, if_stmt, while_stmt, do_stmt, for_stmt, break_stmt, continue_stmt, return_stmt, goto_stmt, label_stmt, decl_stmt, emb_stmt, mark_stmt, StmtList, no_stmts, stmts, StmtOption, no_stmt, some_stmt}
use Rattle.ec_ctypes.specs.trees.Embedded.{EmbData}
use Rattle.ec_language.specs.Letters.{Text}
use Rattle.ec_typing_defs.specs.Operands.{OperandData}
use Rattle.ec_typing_defs.specs.Worlds.{Place, unlisted}
use Rattle.ec_typing_defs.specs.Expressions.{is_varchar, has_init}
use Rattle.ec_typing_defs.specs.Statements.{initial, object_type, object_item, object_items, declared_tag, tag_alone, specifier, declaration, Around, as_body, looping, as_item, condition_rule, condition, optional, optional_condition, return_rule, return_nothing, return_by, embedded_at, statement, statement_kind, statements, otherwise}
use Rattle.ec_sim_world_laws.proofs.known_lemmas.SitesIdle as idle_by
use Rattle.ec_sim_world_laws.proofs.known_lemmas.SitesIdle.{Idle, pure_idle, demand_idle, free_tag_idle}
use Rattle.ec_sim_world_laws.proofs.known_lemmas.SitesChecks.{object_idle}
use Rattle.ec_sim_world_laws.proofs.known_lemmas.SitesOperands.{elements_idle, within_idle}
use Rattle.ec_sim_program_laws.specs.types.Flat.{IsFlat, BaseIsFlat, DeclIsFlat, ItemsAreFlat, ItemIsFlat, DimsAreFlat, InitIsFlat, OptionIsFlat, StmtIsFlat, KindIsFlat, StmtsAreFlat, OtherIsFlat}
use Rattle.ec_sim_program_laws.proofs.flat_lemmas.Counts.{expr_structs, base_structs, decl_structs, items_structs, item_structs, dims_structs, init_structs, option_structs, stmt_structs, kind_structs, stmts_structs, other_structs, last_structs, outer_structs, all_dims}
use Rattle.ec_sim_program_laws.proofs.flat_lemmas.FirstRules.{Adds, chained, within, nothing, idle, then_idle, pure_adds, asked, place_adds, scoped_adds, declare_adds, better_adds, label_adds, number_adds}
use Rattle.ec_sim_program_laws.proofs.flat_lemmas.FirstExpressions.{tagged_adds, varchar_object_adds, valued, two, expr_adds, base_adds, lengths_add, last_adds, outer_add}
use Rattle.ec_sim_program_laws.proofs.flat_lemmas.FirstInitializers.{initializer_adds}
use Rattle.ec_sim_program_laws.proofs.flat_lemmas.FirstEmbedded.{AllPlainly, embedded_adds}

-- ---- declarations

initial_adds : (n : ℕ) (at : Place) (global : Bool) (t : Option TyData) (i : InitOption) → InitIsFlat i → Adds n (n + init_structs i) (initial at global t i)
initial_adds n at global t no_init f = nothing (pure_adds _)
initial_adds n at global t (some_init i) f = initializer_adds n at global t i f

one_less : (n a : ℕ) → n + a ≤ suc (n + a)
one_less n a = omega arith

all_parts : (n last outer all : ℕ) → last + outer ≡ all → suc (n + last) + outer ≤ suc (n + all)
all_parts n last outer all e = omega (arith, e)

type_adds : (n : ℕ) (at : Place) (v : Bool) (t : Option TyData) (stars : ℕ) (name : Text) (ns : DimList) → DimsAreFlat ns → Adds n (suc (n + dims_structs ns)) (object_type at v t stars name ns)
type_adds n at false t stars name ns f =
    within (chained (lengths_add n at ns f) (λ sizes. chained (idle (elements_idle at t stars sizes)) (λ a. pure_adds _))) (one_less n (dims_structs ns))
type_adds n at true t stars name ns f =
    within
    (chained (last_adds n at ns f) (λ m. chained (varchar_object_adds (n + last_structs ns) at name m) (λ own. chained (outer_add (suc (n + last_structs ns)) at ns f) (λ sizes. chained (idle (elements_idle at own stars sizes)) (λ a. pure_adds _)))))
    (all_parts n (last_structs ns) (outer_structs ns) (dims_structs ns) (all_dims ns))

behind_type : (n a b : ℕ) → suc (n + a) + b ≤ n + suc (a + b)
behind_type n a b = omega arith

item_adds : (n : ℕ) (at : Place) (global v : Bool) (t : Option TyData) (d : DeclaratorData) → ItemIsFlat d → Adds n (n + item_structs d) (object_item at global v t d)
item_adds n at global v t (declarator stars name ns init) f =
    within
    (chained (type_adds n at v t stars name ns f.1) (λ whole. chained (idle (within_idle at whole)) (λ a. chained (idle (object_idle at (has_init init) whole)) (λ before. asked _ _ (λ known. chained (declare_adds at name _) (λ b.
    chained (initial_adds (suc (n + dims_structs ns)) at global before init f.2) (λ ty. chained (idle (within_idle at ty)) (λ d. chained (better_adds name _) (λ e. number_adds _)))))))))
    (behind_type n (dims_structs ns) (init_structs init))

items_add : (n : ℕ) (at : Place) (global v : Bool) (t : Option TyData) (ds : DeclaratorList) → ItemsAreFlat ds → Adds n (n + items_structs ds) (object_items at global v t ds)
items_add n at global v t no_declarators f = nothing (pure_adds _)
items_add n at global v t (declarators d ds) f =
    within (chained (item_adds n at global v t d f.0) (λ a. items_add (n + item_structs d) at global v t ds f.1)) (two n (item_structs d) (items_structs ds))

declared_adds : (n : ℕ) (tag : Text) (k : Option ℕ) → Adds n n (declared_tag tag k)
declared_adds n tag None = chained (tagged_adds n tag unlisted) (λ a. pure_adds _)
declared_adds n tag (Some k) = pure_adds _

alone_adds : (n : ℕ) (at : Place) (tag : Text) → Adds n n (tag_alone at tag)
unfolding tag_alone
alone_adds n at tag = chained (idle (free_tag_idle at tag)) (λ a. asked _ _ (λ known. declared_adds n tag _))

specifier_adds : (n : ℕ) (at : Place) (b : BaseData) (ds : DeclaratorList) → BaseIsFlat b → Adds n (n + base_structs b) (specifier at b ds)
specifier_adds n at (tagged tag) no_declarators f = nothing (alone_adds n at tag)
specifier_adds n at (tagged tag) (declarators d ds) f = base_adds n at (tagged tag) f
specifier_adds n at (words ws) ds f = base_adds n at (words ws) f
specifier_adds n at varchar ds f = base_adds n at varchar f
specifier_adds n at (struct_base t ms) ds f = base_adds n at (struct_base t ms) f

pub declaration_adds : (n : ℕ) (global : Bool) (d : DeclData) → DeclIsFlat d → Adds n (n + decl_structs d) (declaration global d)
declaration_adds n global (decl b items section line) f =
    within (chained (place_adds line) (λ at. chained (specifier_adds n at b items f.0) (λ t. items_add (n + base_structs b) at global (is_varchar b) t items f.1))) (two n (base_structs b) (items_structs items))

-- ---- statements

scalar_idle : (at : Place) (o : OperandData) → Idle (condition_rule at o)
unfolding condition_rule
scalar_idle at o = idle_by.if_some o.type (pure_idle _) (λ t. demand_idle _ _ _)

condition_adds : (n : ℕ) (at : Place) (e : ExprData) → IsFlat e → Adds n (n + expr_structs e) (condition at e)
condition_adds n at e f = then_idle (valued at (expr_adds n at e f)) (λ o. scalar_idle at o)

optional_adds : (n : ℕ) (at : Place) (e : Option ExprData) → OptionIsFlat e → Adds n (n + option_structs e) (optional at e)
optional_adds n at None f = nothing (pure_adds _)
optional_adds n at (Some e) f = chained (expr_adds n at e f) (λ o. pure_adds _)

optional_condition_adds : (n : ℕ) (at : Place) (e : Option ExprData) → OptionIsFlat e → Adds n (n + option_structs e) (optional_condition at e)
optional_condition_adds n at None f = nothing (pure_adds _)
optional_condition_adds n at (Some e) f = condition_adds n at e f

value_idle : (at : Place) (r : Option TyData) (o : OperandData) → Idle (return_rule at r o)
unfolding return_rule
value_idle at None o = pure_idle _
value_idle at (Some s) o = idle_by.if_some o.type (pure_idle _) (λ t. demand_idle _ _ _)

nothing_idle : (at : Place) (r : Option TyData) → Idle (return_nothing at r)
unfolding return_nothing
nothing_idle at None = pure_idle _
nothing_idle at (Some s) = demand_idle _ _ _

return_adds : (n : ℕ) (at : Place) (r : Option TyData) (e : Option ExprData) → OptionIsFlat e → Adds n (n + option_structs e) (return_by at r e)
return_adds n at r None f = nothing (idle (nothing_idle at r))
return_adds n at r (Some e) f = then_idle (valued at (expr_adds n at e f)) (λ o. value_idle at r o)

embedded_at_adds : (n : ℕ) (a : Around) (at : Place) (k : ℕ) (e : Option EmbData) → AllPlainly a.embs → slice_get a.embs k ≡ e → Adds n n (embedded_at a at k e)
embedded_at_adds n a at k None p is = pure_adds _
embedded_at_adds n a at k (Some e) p is = embedded_adds n a.embs a.is_body a.in_loop a.labels at k e (p k e is)

three : (n a b c : ℕ) → (n + a + b) + c ≤ n + (a + (b + c))
three n a b c = omega arith

four : (n a b c d : ℕ) → (n + a + b + c) + d ≤ n + (a + (b + (c + d)))
four n a b c d = omega arith

mutual
  pub statement_adds : (n : ℕ) (a : Around) (s : StmtData) → AllPlainly a.embs → StmtIsFlat s → Adds n (n + stmt_structs s) (statement a s)
  statement_adds n a (stmt line kind) p f = chained (place_adds line) (λ at. kind_adds n a at kind p f)

  kind_adds : (n : ℕ) (a : Around) (at : Place) (kind : StmtKindData) → AllPlainly a.embs → KindIsFlat kind → Adds n (n + kind_structs kind) (statement_kind a at kind)
  kind_adds n a at empty_stmt p f = nothing (pure_adds _)
  kind_adds n a at (expr_stmt e) p f = chained (expr_adds n at e f) (λ o. pure_adds _)
  kind_adds n a at (block_stmt ss) p f = scoped_adds (statements_add n (as_item a) ss p f)
  kind_adds n a at (if_stmt e s other) p f =
      within
      (scoped_adds (chained (condition_adds n at e f.0) (λ x. chained (scoped_adds (statement_adds (n + expr_structs e) (as_body a) s p f.1)) (λ y. otherwise_adds (n + expr_structs e + stmt_structs s) (as_body a) other p f.2))))
      (three n (expr_structs e) (stmt_structs s) (other_structs other))
  kind_adds n a at (while_stmt e s) p f =
      within (scoped_adds (chained (condition_adds n at e f.0) (λ x. scoped_adds (statement_adds (n + expr_structs e) (looping a) s p f.1)))) (two n (expr_structs e) (stmt_structs s))
  kind_adds n a at (do_stmt s e) p f =
      within (scoped_adds (chained (scoped_adds (statement_adds n (looping a) s p f.0)) (λ x. condition_adds (n + stmt_structs s) at e f.1))) (two n (stmt_structs s) (expr_structs e))
  kind_adds n a at (for_stmt x y z s) p f =
      within
      (scoped_adds (chained (optional_adds n at x f.0) (λ b. chained (optional_condition_adds (n + option_structs x) at y f.1) (λ c. chained (optional_adds (n + option_structs x + option_structs y) at z f.2) (λ d.
      scoped_adds (statement_adds (n + option_structs x + option_structs y + option_structs z) (looping a) s p f.3))))))
      (four n (option_structs x) (option_structs y) (option_structs z) (stmt_structs s))
  kind_adds n a at break_stmt p f = nothing (idle (demand_idle _ _ _))
  kind_adds n a at continue_stmt p f = nothing (idle (demand_idle _ _ _))
  kind_adds n a at (return_stmt e) p f = return_adds n at a.result e f
  kind_adds n a at (goto_stmt l) p f = nothing (idle (demand_idle _ _ _))
  kind_adds n a at (label_stmt l s) p f = chained (label_adds at l) (λ x. statement_adds n (as_body a) s p f)
  kind_adds n a at (decl_stmt d) p f = declaration_adds n false d f
  kind_adds n a at (emb_stmt k) p f = nothing (embedded_at_adds n a at k (slice_get a.embs k) p refl)
  kind_adds n a at (mark_stmt opens) p f = nothing (pure_adds _)

  pub statements_add : (n : ℕ) (a : Around) (ss : StmtList) → AllPlainly a.embs → StmtsAreFlat ss → Adds n (n + stmts_structs ss) (statements a ss)
  statements_add n a no_stmts p f = nothing (pure_adds _)
  statements_add n a (stmts s ss) p f = within (chained (statement_adds n a s p f.0) (λ x. statements_add (n + stmt_structs s) a ss p f.1)) (two n (stmt_structs s) (stmts_structs ss))

  otherwise_adds : (n : ℕ) (a : Around) (o : StmtOption) → AllPlainly a.embs → OtherIsFlat o → Adds n (n + other_structs o) (otherwise a o)
  otherwise_adds n a no_stmt p f = nothing (pure_adds _)
  otherwise_adds n a (some_stmt s) p f = scoped_adds (statement_adds n a s p f)
