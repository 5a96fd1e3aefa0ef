-- Declarations and statements in which the rules find nothing.
use Rattle.std.proofs.Common.{◌≡◌, ℕ, Bool, true, false, refl, Option, Some, None}
use Rattle.std.specs.Prelude.{slice_get}
use Rattle.ec_ctypes.specs.trees.Types.{TyData}
use Rattle.ec_ctypes.specs.trees.Exprs.{ExprData, BaseData, words, varchar, tagged, struct_base, DimList, InitOption, no_init, some_init, DeclaratorData, declarator, DeclaratorList, no_declarators, declarators, DeclData, decl}
use Rattle.ec_ctypes.specs.trees.Stmts.{StmtData, stmt, StmtKindData, empty_stmt, expr_stmt, block_stmt, if_stmt, while_stmt, do_stmt, for_stmt, break_stmt, continue_stmt, return_stmt, goto_stmt, label_stmt, decl_stmt, emb_stmt, mark_stmt, StmtList, no_stmts, stmts, StmtOption, no_stmt, some_stmt}
use Rattle.ec_ctypes.specs.trees.Embedded.{EmbData}
use Rattle.ec_language.specs.Letters.{Text}
use Rattle.ec_typing_defs.specs.Operands.{OperandData}
use Rattle.ec_typing_defs.specs.Worlds.{Place, unlisted}
use Rattle.ec_typing_defs.specs.Expressions.{is_varchar, has_init}
use Rattle.ec_typing_defs.specs.Statements.{object_rule, initial, object_type, object_item, object_items, declared_tag, tag_alone, specifier, declaration, Around, as_body, looping, as_item, condition_rule, condition, optional, optional_condition, return_rule, return_nothing, return_by, embedded_at, statement, statement_kind, statements, otherwise}
use Rattle.ec_written_laws.specs.source.Kept.{keeps_expr, keeps_base, keeps_decl, keeps_dims, keeps_initializer, keeps_declarator, keeps_declarators, keeps_option, keeps_stmt, keeps_kind, keeps_stmts, keeps_else}
use Rattle.ec_written_laws.specs.kept.Phases.{by_checks}
use Rattle.ec_written_laws.proofs.kept_lemmas.Rules.{join, may_be_tag, Holds, Quiet, chained, gives, asked, pure_holds, demand_quiet, place_quiet, chosen, if_some, scoped_holds, declare_quiet, better_quiet, label_quiet, number_quiet}
use Rattle.ec_written_laws.proofs.kept_lemmas.Operands.{elements_quiet, within_quiet, complete_quiet}
use Rattle.ec_written_laws.proofs.kept_lemmas.Expressions.{free_tag_holds, tagged_quiet, varchar_object_quiet, valued, all_dims, expr_kept, base_kept, lengths_kept, last_kept, outer_kept}
use Rattle.ec_written_laws.proofs.kept_lemmas.Initializers.{initializer_kept}
use Rattle.ec_written_laws.proofs.kept_lemmas.EmbeddedRules.{embedded_quiet}

-- ---- declarations

object_quiet : (at : Place) (has : Bool) (t : Option TyData) → Quiet (object_rule at has t)
unfolding object_rule
object_quiet at has None = pure_holds _ tt
object_quiet at has (Some t) = asked _ _ (λ w c. chosen _ (pure_holds _ tt) (complete_quiet at (Some t)))

initial_kept : (at : Place) (global : Bool) (t : Option TyData) (i : InitOption) → Holds (initial at global t i) (keeps_initializer by_checks i ≡ true)
initial_kept at global t no_init = pure_holds _ refl
initial_kept at global t (some_init i) = initializer_kept at global t i

type_kept : (at : Place) (v : Bool) (t : Option TyData) (stars : ℕ) (name : Text) (ns : DimList) → Holds (object_type at v t stars name ns) (keeps_dims by_checks ns ≡ true)
type_kept at false t stars name ns = chained (lengths_kept at ns) (λ sizes h. chained (elements_quiet at t stars sizes) (λ a p. pure_holds _ h))
type_kept at true t stars name ns = chained (last_kept at ns) (λ n h. chained (varchar_object_quiet at name n) (λ own p. chained (outer_kept at ns) (λ sizes k. chained (elements_quiet at own stars sizes) (λ a q. pure_holds _ (all_dims ns h k)))))

item_kept : (at : Place) (global v : Bool) (t : Option TyData) (d : DeclaratorData) → Holds (object_item at global v t d) (keeps_declarator by_checks d ≡ true)
item_kept at global v t (declarator stars name ns init) =
    chained (type_kept at v t stars name ns) (λ whole h. chained (within_quiet at whole) (λ a p. chained (object_quiet at (has_init init) whole) (λ before q. asked _ _ (λ w c. chained (declare_quiet at name _) (λ b r.
    chained (initial_kept at global before init) (λ ty k. chained (within_quiet at ty) (λ d s. chained (better_quiet name _) (λ e u. gives (number_quiet _) (λ x. join h k)))))))))

items_kept : (at : Place) (global v : Bool) (t : Option TyData) (ds : DeclaratorList) → Holds (object_items at global v t ds) (keeps_declarators by_checks ds ≡ true)
items_kept at global v t no_declarators = pure_holds _ refl
items_kept at global v t (declarators d ds) = chained (item_kept at global v t d) (λ a h. gives (items_kept at global v t ds) (λ k. join h k))

declared_quiet : (tag : Text) (k : Option ℕ) → may_be_tag tag ≡ true → Quiet (declared_tag tag k)
declared_quiet tag None h = chained (tagged_quiet tag unlisted h) (λ a p. pure_holds _ tt)
declared_quiet tag (Some k) h = pure_holds _ tt

alone_kept : (at : Place) (tag : Text) → Holds (tag_alone at tag) (may_be_tag tag ≡ true)
unfolding tag_alone
alone_kept at tag = chained (free_tag_holds at tag) (λ a h. asked _ _ (λ w c. gives (declared_quiet tag _ h) (λ u. h)))

specifier_kept : (at : Place) (b : BaseData) (ds : DeclaratorList) → Holds (specifier at b ds) (keeps_base by_checks b ≡ true)
specifier_kept at (tagged tag) no_declarators = alone_kept at tag
specifier_kept at (tagged tag) (declarators d ds) = base_kept at (tagged tag)
specifier_kept at (words ws) ds = base_kept at (words ws)
specifier_kept at varchar ds = base_kept at varchar
specifier_kept at (struct_base t ms) ds = base_kept at (struct_base t ms)

pub declaration_kept : (global : Bool) (d : DeclData) → Holds (declaration global d) (keeps_decl by_checks d ≡ true)
declaration_kept global (decl b items section line) = chained (place_quiet line) (λ at p. chained (specifier_kept at b items) (λ t h. gives (items_kept at global (is_varchar b) t items) (λ k. join h k)))

-- ---- statements

condition_quiet : (at : Place) (o : OperandData) → Quiet (condition_rule at o)
unfolding condition_rule
condition_quiet at o = if_some o.type (pure_holds _ tt) (λ t. demand_quiet _ _ _)

condition_kept : (at : Place) (e : ExprData) → Holds (condition at e) (keeps_expr by_checks e ≡ true)
condition_kept at e = chained (valued at (expr_kept at e)) (λ o h. gives (condition_quiet at o) (λ u. h))

optional_kept : (at : Place) (e : Option ExprData) → Holds (optional at e) (keeps_option by_checks e ≡ true)
optional_kept at None = pure_holds _ refl
optional_kept at (Some e) = chained (expr_kept at e) (λ o h. pure_holds _ h)

optional_condition_kept : (at : Place) (e : Option ExprData) → Holds (optional_condition at e) (keeps_option by_checks e ≡ true)
optional_condition_kept at None = pure_holds _ refl
optional_condition_kept at (Some e) = condition_kept at e

return_quiet : (at : Place) (r : Option TyData) (o : OperandData) → Quiet (return_rule at r o)
unfolding return_rule
return_quiet at None o = pure_holds _ tt
return_quiet at (Some s) o = if_some o.type (pure_holds _ tt) (λ t. demand_quiet _ _ _)

nothing_quiet : (at : Place) (r : Option TyData) → Quiet (return_nothing at r)
unfolding return_nothing
nothing_quiet at None = pure_holds _ tt
nothing_quiet at (Some s) = demand_quiet _ _ _

return_kept : (at : Place) (r : Option TyData) (e : Option ExprData) → Holds (return_by at r e) (keeps_option by_checks e ≡ true)
return_kept at r None = gives (nothing_quiet at r) (λ u. refl)
return_kept at r (Some e) = chained (valued at (expr_kept at e)) (λ o h. gives (return_quiet at r o) (λ u. h))

embedded_at_quiet : (a : Around) (at : Place) (n : ℕ) (e : Option EmbData) → Quiet (embedded_at a at n e)
embedded_at_quiet a at n None = pure_holds _ tt
embedded_at_quiet a at n (Some e) = embedded_quiet a.embs a.is_body a.in_loop a.labels at n e

mutual
  pub statement_kept : (a : Around) (s : StmtData) → Holds (statement a s) (keeps_stmt by_checks s ≡ true)
  statement_kept a (stmt line kind) = chained (place_quiet line) (λ at p. kind_kept a at kind)

  kind_kept : (a : Around) (at : Place) (kind : StmtKindData) → Holds (statement_kind a at kind) (keeps_kind by_checks kind ≡ true)
  kind_kept a at empty_stmt = pure_holds _ refl
  kind_kept a at (expr_stmt e) = chained (expr_kept at e) (λ o h. pure_holds _ h)
  kind_kept a at (block_stmt ss) = scoped_holds (statements_kept (as_item a) ss)
  kind_kept a at (if_stmt e s other) =
      scoped_holds (chained (condition_kept at e) (λ x h. chained (scoped_holds (statement_kept (as_body a) s)) (λ y k. gives (otherwise_kept (as_body a) other) (λ l. join h (join k l)))))
  kind_kept a at (while_stmt e s) = scoped_holds (chained (condition_kept at e) (λ x h. gives (scoped_holds (statement_kept (looping a) s)) (λ k. join h k)))
  kind_kept a at (do_stmt s e) = scoped_holds (chained (scoped_holds (statement_kept (looping a) s)) (λ x h. gives (condition_kept at e) (λ k. join h k)))
  kind_kept a at (for_stmt x y z s) =
      scoped_holds (chained (optional_kept at x) (λ b h. chained (optional_condition_kept at y) (λ c k. chained (optional_kept at z) (λ d l. gives (scoped_holds (statement_kept (looping a) s)) (λ m. join (join h (join k l)) m)))))
  kind_kept a at break_stmt = gives (demand_quiet _ _ _) (λ u. refl)
  kind_kept a at continue_stmt = gives (demand_quiet _ _ _) (λ u. refl)
  kind_kept a at (return_stmt e) = return_kept at a.result e
  kind_kept a at (goto_stmt l) = gives (demand_quiet _ _ _) (λ u. refl)
  kind_kept a at (label_stmt l s) = chained (label_quiet at l) (λ x p. statement_kept (as_body a) s)
  kind_kept a at (decl_stmt d) = declaration_kept false d
  kind_kept a at (emb_stmt n) = gives (embedded_at_quiet a at n (slice_get a.embs n)) (λ u. refl)
  kind_kept a at (mark_stmt opens) = pure_holds _ refl

  pub statements_kept : (a : Around) (ss : StmtList) → Holds (statements a ss) (keeps_stmts by_checks ss ≡ true)
  statements_kept a no_stmts = pure_holds _ refl
  statements_kept a (stmts s ss) = chained (statement_kept a s) (λ x h. gives (statements_kept a ss) (λ k. join h k))

  otherwise_kept : (a : Around) (o : StmtOption) → Holds (otherwise a o) (keeps_else by_checks o ≡ true)
  otherwise_kept a no_stmt = pure_holds _ refl
  otherwise_kept a (some_stmt s) = scoped_holds (statement_kept a s)
