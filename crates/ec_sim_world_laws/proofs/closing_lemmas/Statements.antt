-- Structs stay closed in their order by declarations and statements.
use Rattle.std.proofs.Common.{ℕ, Bool, true, false, Option, Some, None}
use Rattle.std.specs.Prelude.{slice_get}
use Rattle.ec_ctypes.specs.trees.Types.{TyData}
use Rattle.ec_ctypes.specs.trees.Exprs.{ExprData, BaseData, words, varchar, tagged, struct_base, DimList, InitOption, no_init, some_init, DeclaratorData, declarator, DeclaratorList, no_declarators, declarators, DeclData, decl}
use Rattle.ec_ctypes.specs.trees.Stmts.{StmtData, stmt, StmtKindData, empty_stmt, expr_stmt, block_stmt, if_stmt, while_stmt, do_stmt, for_stmt, break_stmt, continue_stmt, return_stmt, goto_stmt, label_stmt, decl_stmt, emb_stmt, mark_stmt, StmtList, no_stmts, stmts, StmtOption, no_stmt, some_stmt}
use Rattle.ec_ctypes.specs.trees.Embedded.{EmbData}
use Rattle.ec_language.specs.Letters.{Text}
use Rattle.ec_typing_defs.specs.Operands.{OperandData}
use Rattle.ec_typing_defs.specs.Worlds.{Place}
use Rattle.ec_typing_defs.specs.Expressions.{is_varchar, has_init}
use Rattle.ec_typing_defs.specs.Statements.{object_rule, initial, object_type, object_item, object_items, declared_tag, tag_alone, specifier, declaration, Around, as_body, looping, as_item, condition_rule, condition, optional, optional_condition, return_rule, return_nothing, return_by, embedded_at, statement, statement_kind, statements, otherwise}
use Rattle.ec_sim_world_laws.proofs.closing_lemmas.Rules.{Keeping, chained, asked, pure_keeps, demand_keeps, place_keeps, chosen, if_some, scoped_keeps, free_tag_keeps, declare_keeps, better_keeps, label_keeps, number_keeps}
use Rattle.ec_sim_world_laws.proofs.closing_lemmas.Operands.{elements_keeps, within_keeps, complete_keeps}
use Rattle.ec_sim_world_laws.proofs.closing_lemmas.Expressions.{tagged_keeps, varchar_object_keeps, valued, expr_keeps, base_keeps, lengths_keep, last_keeps, outer_keep}
use Rattle.ec_sim_world_laws.proofs.closing_lemmas.Initializers.{initializer_keeps}
use Rattle.ec_sim_world_laws.proofs.closing_lemmas.EmbeddedRules.{embedded_keeps}

-- ---- declarations

object_keeps : (at : Place) (has : Bool) (t : Option TyData) → Keeping (object_rule at has t)
unfolding object_rule
object_keeps at has None = pure_keeps _
object_keeps at has (Some t) = asked _ _ (λ known. chosen _ (pure_keeps _) (complete_keeps at (Some t)))

initial_keeps : (at : Place) (global : Bool) (t : Option TyData) (i : InitOption) → Keeping (initial at global t i)
initial_keeps at global t no_init = pure_keeps _
initial_keeps at global t (some_init i) = initializer_keeps at global t i

type_keeps : (at : Place) (v : Bool) (t : Option TyData) (stars : ℕ) (name : Text) (ns : DimList) → Keeping (object_type at v t stars name ns)
type_keeps at false t stars name ns = chained (lengths_keep at ns) (λ sizes. chained (elements_keeps at t stars sizes) (λ a. pure_keeps _))
type_keeps at true t stars name ns = chained (last_keeps at ns) (λ n. chained (varchar_object_keeps at name n) (λ own. chained (outer_keep at ns) (λ sizes. chained (elements_keeps at own stars sizes) (λ a. pure_keeps _))))

item_keeps : (at : Place) (global v : Bool) (t : Option TyData) (d : DeclaratorData) → Keeping (object_item at global v t d)
item_keeps at global v t (declarator stars name ns init) =
    chained (type_keeps at v t stars name ns) (λ whole. chained (within_keeps at whole) (λ a. chained (object_keeps at (has_init init) whole) (λ before. asked _ _ (λ known. chained (declare_keeps at name _) (λ b.
    chained (initial_keeps at global before init) (λ ty. chained (within_keeps at ty) (λ d. chained (better_keeps name _) (λ e. number_keeps _))))))))

items_keep : (at : Place) (global v : Bool) (t : Option TyData) (ds : DeclaratorList) → Keeping (object_items at global v t ds)
items_keep at global v t no_declarators = pure_keeps _
items_keep at global v t (declarators d ds) = chained (item_keeps at global v t d) (λ a. items_keep at global v t ds)

declared_keeps : (tag : Text) (k : Option ℕ) → Keeping (declared_tag tag k)
declared_keeps tag None = chained (tagged_keeps tag) (λ a. pure_keeps _)
declared_keeps tag (Some k) = pure_keeps _

alone_keeps : (at : Place) (tag : Text) → Keeping (tag_alone at tag)
unfolding tag_alone
alone_keeps at tag = chained (free_tag_keeps at tag) (λ a. asked _ _ (λ known. declared_keeps tag _))

specifier_keeps : (at : Place) (b : BaseData) (ds : DeclaratorList) → Keeping (specifier at b ds)
specifier_keeps at (tagged tag) no_declarators = alone_keeps at tag
specifier_keeps at (tagged tag) (declarators d ds) = base_keeps at (tagged tag)
specifier_keeps at (words ws) ds = base_keeps at (words ws)
specifier_keeps at varchar ds = base_keeps at varchar
specifier_keeps at (struct_base t ms) ds = base_keeps at (struct_base t ms)

pub declaration_keeps : (global : Bool) (d : DeclData) → Keeping (declaration global d)
declaration_keeps global (decl b items section line) = chained (place_keeps line) (λ at. chained (specifier_keeps at b items) (λ t. items_keep at global (is_varchar b) t items))

-- ---- statements

scalar_keeps : (at : Place) (o : OperandData) → Keeping (condition_rule at o)
unfolding condition_rule
scalar_keeps at o = if_some o.type (pure_keeps _) (λ t. demand_keeps _ _ _)

condition_keeps : (at : Place) (e : ExprData) → Keeping (condition at e)
condition_keeps at e = chained (valued at (expr_keeps at e)) (λ o. scalar_keeps at o)

optional_keeps : (at : Place) (e : Option ExprData) → Keeping (optional at e)
optional_keeps at None = pure_keeps _
optional_keeps at (Some e) = chained (expr_keeps at e) (λ o. pure_keeps _)

optional_condition_keeps : (at : Place) (e : Option ExprData) → Keeping (optional_condition at e)
optional_condition_keeps at None = pure_keeps _
optional_condition_keeps at (Some e) = condition_keeps at e

value_keeps : (at : Place) (r : Option TyData) (o : OperandData) → Keeping (return_rule at r o)
unfolding return_rule
value_keeps at None o = pure_keeps _
value_keeps at (Some s) o = if_some o.type (pure_keeps _) (λ t. demand_keeps _ _ _)

nothing_keeps : (at : Place) (r : Option TyData) → Keeping (return_nothing at r)
unfolding return_nothing
nothing_keeps at None = pure_keeps _
nothing_keeps at (Some s) = demand_keeps _ _ _

return_keeps : (at : Place) (r : Option TyData) (e : Option ExprData) → Keeping (return_by at r e)
return_keeps at r None = nothing_keeps at r
return_keeps at r (Some e) = chained (valued at (expr_keeps at e)) (λ o. value_keeps at r o)

embedded_at_keeps : (a : Around) (at : Place) (n : ℕ) (e : Option EmbData) → Keeping (embedded_at a at n e)
embedded_at_keeps a at n None = pure_keeps _
embedded_at_keeps a at n (Some e) = embedded_keeps a.embs a.is_body a.in_loop a.labels at n e

mutual
  pub statement_keeps : (a : Around) (s : StmtData) → Keeping (statement a s)
  statement_keeps a (stmt line kind) = chained (place_keeps line) (λ at. kind_keeps a at kind)

  kind_keeps : (a : Around) (at : Place) (kind : StmtKindData) → Keeping (statement_kind a at kind)
  kind_keeps a at empty_stmt = pure_keeps _
  kind_keeps a at (expr_stmt e) = chained (expr_keeps at e) (λ o. pure_keeps _)
  kind_keeps a at (block_stmt ss) = scoped_keeps (statements_keep (as_item a) ss)
  kind_keeps a at (if_stmt e s other) =
      scoped_keeps (chained (condition_keeps at e) (λ x. chained (scoped_keeps (statement_keeps (as_body a) s)) (λ y. otherwise_keeps (as_body a) other)))
  kind_keeps a at (while_stmt e s) = scoped_keeps (chained (condition_keeps at e) (λ x. scoped_keeps (statement_keeps (looping a) s)))
  kind_keeps a at (do_stmt s e) = scoped_keeps (chained (scoped_keeps (statement_keeps (looping a) s)) (λ x. condition_keeps at e))
  kind_keeps a at (for_stmt x y z s) =
      scoped_keeps (chained (optional_keeps at x) (λ b. chained (optional_condition_keeps at y) (λ c. chained (optional_keeps at z) (λ d. scoped_keeps (statement_keeps (looping a) s)))))
  kind_keeps a at break_stmt = demand_keeps _ _ _
  kind_keeps a at continue_stmt = demand_keeps _ _ _
  kind_keeps a at (return_stmt e) = return_keeps at a.result e
  kind_keeps a at (goto_stmt l) = demand_keeps _ _ _
  kind_keeps a at (label_stmt l s) = chained (label_keeps at l) (λ x. statement_keeps (as_body a) s)
  kind_keeps a at (decl_stmt d) = declaration_keeps false d
  kind_keeps a at (emb_stmt n) = embedded_at_keeps a at n (slice_get a.embs n)
  kind_keeps a at (mark_stmt opens) = pure_keeps _

  pub statements_keep : (a : Around) (ss : StmtList) → Keeping (statements a ss)
  statements_keep a no_stmts = pure_keeps _
  statements_keep a (stmts s ss) = chained (statement_keeps a s) (λ x. statements_keep a ss)

  otherwise_keeps : (a : Around) (o : StmtOption) → Keeping (otherwise a o)
  otherwise_keeps a no_stmt = pure_keeps _
  otherwise_keeps a (some_stmt s) = scoped_keeps (statement_keeps a s)
