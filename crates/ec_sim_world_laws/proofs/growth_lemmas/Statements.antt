-- What is known grows by declarations and statements.
use Rattle.std.proofs.Common.{ℕ, Bool, true, false, Option, Some, None}
use Rattle.std.specs.Prelude.{slice_get}
use Rattle.ec_ctypes.specs.trees.Types.{TyData}
use Rattle.ec_ctypes.specs.trees.Exprs.{ExprData, BaseData, words, varchar, tagged, struct_base, DimList, InitOption, no_init, some_init, DeclaratorData, declarator, DeclaratorList, no_declarators, declarators, DeclData, decl}
use Rattle.ec_ctypes.specs.trees.Stmts.{StmtData, stmt, StmtKindData, empty_stmt, expr_stmt, block_stmt, if_stmt, while_stmt, do_stmt, for_stmt, break_stmt, continue_stmt, return_stmt, goto_stmt, label_stmt, decl_stmt, emb_stmt, mark_stmt, StmtList, no_stmts, stmts, StmtOption, no_stmt, some_stmt}
use Rattle.ec_ctypes.specs.trees.Embedded.{EmbData}
use Rattle.ec_language.specs.Letters.{Text}
use Rattle.ec_typing_defs.specs.Operands.{OperandData}
use Rattle.ec_typing_defs.specs.Worlds.{Place, unlisted}
use Rattle.ec_typing_defs.specs.Expressions.{is_varchar, has_init}
use Rattle.ec_typing_defs.specs.Statements.{object_rule, initial, object_type, object_item, object_items, declared_tag, tag_alone, specifier, declaration, Around, as_body, looping, as_item, condition_rule, condition, optional, optional_condition, return_rule, return_nothing, return_by, embedded_at, statement, statement_kind, statements, otherwise}
use Rattle.ec_sim_world_laws.proofs.growth_lemmas.Rules.{Growing, chained, asked, pure_grows, demand_grows, place_grows, chosen, if_some, scoped_grows, free_tag_grows, declare_grows, better_grows, label_grows, number_grows}
use Rattle.ec_sim_world_laws.proofs.growth_lemmas.Operands.{elements_grows, within_grows, complete_grows}
use Rattle.ec_sim_world_laws.proofs.growth_lemmas.Expressions.{tagged_grows, varchar_object_grows, valued, expr_grows, base_grows, lengths_grow, last_grows, outer_grow}
use Rattle.ec_sim_world_laws.proofs.growth_lemmas.Initializers.{initializer_grows}
use Rattle.ec_sim_world_laws.proofs.growth_lemmas.EmbeddedRules.{embedded_grows}

-- ---- declarations

object_grows : (at : Place) (has : Bool) (t : Option TyData) → Growing (object_rule at has t)
unfolding object_rule
object_grows at has None = pure_grows _
object_grows at has (Some t) = asked _ _ (λ known. chosen _ (pure_grows _) (complete_grows at (Some t)))

initial_grows : (at : Place) (global : Bool) (t : Option TyData) (i : InitOption) → Growing (initial at global t i)
initial_grows at global t no_init = pure_grows _
initial_grows at global t (some_init i) = initializer_grows at global t i

type_grows : (at : Place) (v : Bool) (t : Option TyData) (stars : ℕ) (name : Text) (ns : DimList) → Growing (object_type at v t stars name ns)
type_grows at false t stars name ns = chained (lengths_grow at ns) (λ sizes. chained (elements_grows at t stars sizes) (λ a. pure_grows _))
type_grows at true t stars name ns = chained (last_grows at ns) (λ n. chained (varchar_object_grows at name n) (λ own. chained (outer_grow at ns) (λ sizes. chained (elements_grows at own stars sizes) (λ a. pure_grows _))))

item_grows : (at : Place) (global v : Bool) (t : Option TyData) (d : DeclaratorData) → Growing (object_item at global v t d)
item_grows at global v t (declarator stars name ns init) =
    chained (type_grows at v t stars name ns) (λ whole. chained (within_grows at whole) (λ a. chained (object_grows at (has_init init) whole) (λ before. asked _ _ (λ known. chained (declare_grows at name _) (λ b.
    chained (initial_grows at global before init) (λ ty. chained (within_grows at ty) (λ d. chained (better_grows name _) (λ e. number_grows _))))))))

items_grow : (at : Place) (global v : Bool) (t : Option TyData) (ds : DeclaratorList) → Growing (object_items at global v t ds)
items_grow at global v t no_declarators = pure_grows _
items_grow at global v t (declarators d ds) = chained (item_grows at global v t d) (λ a. items_grow at global v t ds)

declared_grows : (tag : Text) (k : Option ℕ) → Growing (declared_tag tag k)
declared_grows tag None = chained (tagged_grows tag unlisted) (λ a. pure_grows _)
declared_grows tag (Some k) = pure_grows _

alone_grows : (at : Place) (tag : Text) → Growing (tag_alone at tag)
unfolding tag_alone
alone_grows at tag = chained (free_tag_grows at tag) (λ a. asked _ _ (λ known. declared_grows tag _))

specifier_grows : (at : Place) (b : BaseData) (ds : DeclaratorList) → Growing (specifier at b ds)
specifier_grows at (tagged tag) no_declarators = alone_grows at tag
specifier_grows at (tagged tag) (declarators d ds) = base_grows at (tagged tag)
specifier_grows at (words ws) ds = base_grows at (words ws)
specifier_grows at varchar ds = base_grows at varchar
specifier_grows at (struct_base t ms) ds = base_grows at (struct_base t ms)

pub declaration_grows : (global : Bool) (d : DeclData) → Growing (declaration global d)
declaration_grows global (decl b items section line) = chained (place_grows line) (λ at. chained (specifier_grows at b items) (λ t. items_grow at global (is_varchar b) t items))

-- ---- statements

scalar_grows : (at : Place) (o : OperandData) → Growing (condition_rule at o)
unfolding condition_rule
scalar_grows at o = if_some o.type (pure_grows _) (λ t. demand_grows _ _ _)

condition_grows : (at : Place) (e : ExprData) → Growing (condition at e)
condition_grows at e = chained (valued at (expr_grows at e)) (λ o. scalar_grows at o)

optional_grows : (at : Place) (e : Option ExprData) → Growing (optional at e)
optional_grows at None = pure_grows _
optional_grows at (Some e) = chained (expr_grows at e) (λ o. pure_grows _)

optional_condition_grows : (at : Place) (e : Option ExprData) → Growing (optional_condition at e)
optional_condition_grows at None = pure_grows _
optional_condition_grows at (Some e) = condition_grows at e

value_grows : (at : Place) (r : Option TyData) (o : OperandData) → Growing (return_rule at r o)
unfolding return_rule
value_grows at None o = pure_grows _
value_grows at (Some s) o = if_some o.type (pure_grows _) (λ t. demand_grows _ _ _)

nothing_grows : (at : Place) (r : Option TyData) → Growing (return_nothing at r)
unfolding return_nothing
nothing_grows at None = pure_grows _
nothing_grows at (Some s) = demand_grows _ _ _

return_grows : (at : Place) (r : Option TyData) (e : Option ExprData) → Growing (return_by at r e)
return_grows at r None = nothing_grows at r
return_grows at r (Some e) = chained (valued at (expr_grows at e)) (λ o. value_grows at r o)

embedded_at_grows : (a : Around) (at : Place) (n : ℕ) (e : Option EmbData) → Growing (embedded_at a at n e)
embedded_at_grows a at n None = pure_grows _
embedded_at_grows a at n (Some e) = embedded_grows a.embs a.is_body a.in_loop a.labels at n e

mutual
  pub statement_grows : (a : Around) (s : StmtData) → Growing (statement a s)
  statement_grows a (stmt line kind) = chained (place_grows line) (λ at. kind_grows a at kind)

  kind_grows : (a : Around) (at : Place) (kind : StmtKindData) → Growing (statement_kind a at kind)
  kind_grows a at empty_stmt = pure_grows _
  kind_grows a at (expr_stmt e) = chained (expr_grows at e) (λ o. pure_grows _)
  kind_grows a at (block_stmt ss) = scoped_grows (statements_grow (as_item a) ss)
  kind_grows a at (if_stmt e s other) =
      scoped_grows (chained (condition_grows at e) (λ x. chained (scoped_grows (statement_grows (as_body a) s)) (λ y. otherwise_grows (as_body a) other)))
  kind_grows a at (while_stmt e s) = scoped_grows (chained (condition_grows at e) (λ x. scoped_grows (statement_grows (looping a) s)))
  kind_grows a at (do_stmt s e) = scoped_grows (chained (scoped_grows (statement_grows (looping a) s)) (λ x. condition_grows at e))
  kind_grows a at (for_stmt x y z s) =
      scoped_grows (chained (optional_grows at x) (λ b. chained (optional_condition_grows at y) (λ c. chained (optional_grows at z) (λ d. scoped_grows (statement_grows (looping a) s)))))
  kind_grows a at break_stmt = demand_grows _ _ _
  kind_grows a at continue_stmt = demand_grows _ _ _
  kind_grows a at (return_stmt e) = return_grows at a.result e
  kind_grows a at (goto_stmt l) = demand_grows _ _ _
  kind_grows a at (label_stmt l s) = chained (label_grows at l) (λ x. statement_grows (as_body a) s)
  kind_grows a at (decl_stmt d) = declaration_grows false d
  kind_grows a at (emb_stmt n) = embedded_at_grows a at n (slice_get a.embs n)
  kind_grows a at (mark_stmt opens) = pure_grows _

  pub statements_grow : (a : Around) (ss : StmtList) → Growing (statements a ss)
  statements_grow a no_stmts = pure_grows _
  statements_grow a (stmts s ss) = chained (statement_grows a s) (λ x. statements_grow a ss)

  otherwise_grows : (a : Around) (o : StmtOption) → Growing (otherwise a o)
  otherwise_grows a no_stmt = pure_grows _
  otherwise_grows a (some_stmt s) = scoped_grows (statement_grows a s)
