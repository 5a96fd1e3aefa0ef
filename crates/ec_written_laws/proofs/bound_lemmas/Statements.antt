-- Declarations and statements of a source, in which the rules find nothing, and the embedded statements that stand in them.
use Rattle.std.proofs.Common.{◌≡◌, ℕ, Bool, true, false, not, ◌&&◌, ◌||◌, List, [], ◌∷◌, refl, ap, ◌∙◌, sym, subst, Option, Some, None, if◌then◌else◌}
use Rattle.std.specs.Prelude.{is_some, slice_get}
use Rattle.std.proofs.lemmas.Bool.{false≢true}
use Rattle.ec_ctypes.specs.trees.Types.{TyData}
use Rattle.ec_ctypes.specs.trees.Exprs.{ExprData, BaseData, words, varchar, tagged, struct_base, DimList, InitOption, no_init, some_init, DeclaratorData, declarator, DeclaratorList, no_declarators, declarators, DeclData, decl}
use Rattle.ec_ctypes.specs.trees.Stmts.{StmtData, stmt, StmtKindData, empty_stmt, expr_stmt, block_stmt, if_stmt, while_stmt, do_stmt, for_stmt, break_stmt, continue_stmt, return_stmt, goto_stmt, label_stmt, decl_stmt, emb_stmt, mark_stmt, StmtList, no_stmts, stmts, StmtOption, no_stmt, some_stmt}
use Rattle.ec_ctypes.specs.trees.Embedded.{EmbData}
use Rattle.ec_language.specs.Letters.{Text, same_text}
use Rattle.ec_language.proofs.Ends.{both}
use Rattle.ec_language.proofs.Marks.{same_text_is}
use Rattle.ec_typing_defs.specs.Operands.{OperandData}
use Rattle.ec_typing_defs.specs.Tables.{Named, find, put}
use Rattle.ec_typing_defs.specs.Worlds.{Place, unlisted}
use Rattle.ec_typing_defs.specs.Expressions.{is_varchar, has_init}
use Rattle.ec_typing_defs.specs.Statements.{object_rule, initial, object_type, object_item, object_items, declared_tag, tag_alone, specifier, declaration, Around, as_body, looping, as_item, condition_rule, condition, optional, optional_condition, return_rule, return_nothing, return_by, embedded_at, statement, statement_kind, statements, otherwise, labels_in, labels_in_kind, labels_in_all, labels_in_option}
use Rattle.ec_writing_defs.specs.Shapes.{is_plain_name, is_line, is_open}
use Rattle.ec_written_laws.specs.source.SourceShape.{is_source_expr, is_source_base, are_source_dims, is_source_initializer, is_source_declarator, are_source_declarators, is_source_decl, is_source_option, is_item_alone, is_source_stmt, is_source_kind, is_source_else, are_source_items, is_source_item}
use Rattle.ec_written_laws.specs.bound.Numbers.{stmt_numbers, kind_numbers, stmts_numbers, else_numbers}
use Rattle.ec_written_laws.proofs.bound_lemmas.Rules.{Holds, Quiet, quiet_of, chained, gives, asked, pure_holds, demand_quiet, place_quiet, chosen, if_some, scoped_holds, declare_holds, better_quiet, label_quiet, number_quiet}
use Rattle.ec_written_laws.proofs.bound_lemmas.Operands.{elements_quiet, within_quiet, complete_quiet}
use Rattle.ec_written_laws.proofs.bound_lemmas.Expressions.{free_tag_quiet, tagged_quiet, varchar_object_quiet, valued, expr_quiet, base_quiet, lengths_quiet, last_quiet, outer_quiet}
use Rattle.ec_written_laws.proofs.bound_lemmas.Initializers.{initializer_quiet}
use Rattle.ec_written_laws.proofs.bound_lemmas.EmbeddedRules.{PlainLabels, AreSimple, HasKnownNames, IsKnown, embedded_known}

-- ---- declarations

object_quiet : (at : Place) (has : Bool) (t : Option TyData) → Quiet (object_rule at has t)
unfolding object_rule
object_quiet at has None = pure_holds _ tt
object_quiet at has (Some t) = asked _ _ (λ w c. chosen _ (pure_holds _ tt) (complete_quiet at (Some t)))

initial_quiet : (at : Place) (global : Bool) (t : Option TyData) (i : InitOption) → is_source_initializer i ≡ true → Quiet (initial at global t i)
initial_quiet at global t no_init s = pure_holds _ tt
initial_quiet at global t (some_init i) s = initializer_quiet at global t i s

type_quiet : (at : Place) (v : Bool) (t : Option TyData) (stars : ℕ) (name : Text) (ns : DimList) → are_source_dims ns ≡ true → Quiet (object_type at v t stars name ns)
type_quiet at false t stars name ns s = chained (lengths_quiet at ns s) (λ sizes h. chained (elements_quiet at t stars sizes) (λ a p. pure_holds _ tt))
type_quiet at true t stars name ns s = chained (last_quiet at ns s) (λ n h. chained (varchar_object_quiet at name n) (λ own p. chained (outer_quiet at ns s) (λ sizes k. chained (elements_quiet at own stars sizes) (λ a q. pure_holds _ tt))))

item_quiet : (at : Place) (global v : Bool) (t : Option TyData) (d : DeclaratorData) → is_source_declarator d ≡ true → Quiet (object_item at global v t d)
item_quiet at global v t (declarator stars name ns init) s =
    let p = both (is_plain_name name) (are_source_dims ns && is_source_initializer init) s in
    let q = both (are_source_dims ns) (is_source_initializer init) p.1 in
    chained (type_quiet at v t stars name ns q.0) (λ whole h. chained (within_quiet at whole) (λ a e. chained (object_quiet at (has_init init) whole) (λ before r. asked _ _ (λ w c. chained (declare_holds at name _ p.0) (λ b free.
    chained (initial_quiet at global before init q.1) (λ ty k. chained (within_quiet at ty) (λ d x. chained (better_quiet name _ free) (λ e u. number_quiet _))))))))

items_quiet : (at : Place) (global v : Bool) (t : Option TyData) (ds : DeclaratorList) → are_source_declarators ds ≡ true → Quiet (object_items at global v t ds)
items_quiet at global v t no_declarators s = pure_holds _ tt
items_quiet at global v t (declarators d ds) s = let p = both (is_source_declarator d) (are_source_declarators ds) s in chained (item_quiet at global v t d p.0) (λ a h. items_quiet at global v t ds p.1)

declared_quiet : (tag : Text) (k : Option ℕ) → Quiet (declared_tag tag k)
declared_quiet tag None = chained (tagged_quiet tag unlisted tt) (λ a p. pure_holds _ tt)
declared_quiet tag (Some k) = pure_holds _ tt

alone_quiet : (at : Place) (tag : Text) → Quiet (tag_alone at tag)
unfolding tag_alone
alone_quiet at tag = chained (free_tag_quiet at tag) (λ a h. asked _ _ (λ w c. declared_quiet tag _))

specifier_quiet : (at : Place) (b : BaseData) (ds : DeclaratorList) → is_source_base b ≡ true → Quiet (specifier at b ds)
specifier_quiet at (tagged tag) no_declarators s = alone_quiet at tag
specifier_quiet at (tagged tag) (declarators d ds) s = base_quiet at (tagged tag) s
specifier_quiet at (words ws) ds s = base_quiet at (words ws) s
specifier_quiet at varchar ds s = base_quiet at varchar s
specifier_quiet at (struct_base t ms) ds s = base_quiet at (struct_base t ms) s

pub declaration_quiet : (global : Bool) (d : DeclData) → is_source_decl d ≡ true → Quiet (declaration global d)
declaration_quiet global (decl b items section line) s =
    let p = both (is_line line.0) (is_source_base b && are_source_declarators items) s in
    let q = both (is_source_base b) (are_source_declarators items) p.1 in
    chained (place_quiet line) (λ at r. chained (specifier_quiet at b items q.0) (λ t h. items_quiet at global (is_varchar b) t items q.1))

-- ---- labels

abbrev PlainTable : Named (Unit {0}) → Type 0
PlainTable [] = Unit {0}
PlainTable (e ∷ es) = (is_plain_name e.0 ≡ true) × PlainTable es

put_label : (x : Text) (es : Named (Unit {0})) → is_plain_name x ≡ true → PlainTable es → PlainTable (put x tt es)
put_label x [] h c = (h, tt)
put_label x (e ∷ es) h c = go (same_text x e.0) (put_label x es h c.1)
  where
    go : (b : Bool) → PlainTable (put x tt es) → PlainTable (if b then (e.0, tt) ∷ es else e ∷ put x tt es)
    go true more = c
    go false more = (c.0, more)

found_label : (x : Text) (es : Named (Unit {0})) → PlainTable es → is_some (find x es) ≡ true → is_plain_name x ≡ true
found_label x [] c e = absurd (false≢true e)
found_label x (y ∷ es) c e = go (same_text x y.0) refl e (found_label x es c.1)
  where
    go : (b : Bool) → same_text x y.0 ≡ b → is_some (if b then Some y.1 else find x es) ≡ true → (is_some (find x es) ≡ true → is_plain_name x ≡ true) → is_plain_name x ≡ true
    go true s e more = ap is_plain_name (same_text_is x y.0 s) ∙ c.0
    go false s e more = more e

or_false : (x : Bool) → (x || false) ≡ true → x ≡ true
or_false true h = refl
or_false false h = h

second_is : (a b : Bool) → b ≡ true → (a || b) ≡ true
second_is true b e = refl
second_is false b e = e

mutual
  labels_stmt : (s : StmtData) (ls : Named (Unit {0})) → is_source_stmt s ≡ true → PlainTable ls → PlainTable (labels_in s ls)
  labels_stmt (stmt line kind) ls h c = labels_kind kind ls (second_is (is_item_alone kind) (is_source_kind kind) (both (is_line line.0) (is_source_kind kind) h).1) c

  labels_kind : (kind : StmtKindData) (ls : Named (Unit {0})) → (is_item_alone kind || is_source_kind kind) ≡ true → PlainTable ls → PlainTable (labels_in_kind kind ls)
  labels_kind (block_stmt ss) ls h c = labels_items ss ls h c
  labels_kind (if_stmt e s other) ls h c =
      let p = both (is_source_expr e) (is_source_stmt s && is_source_else (is_open s) other) h in
      let q = both (is_source_stmt s) (is_source_else (is_open s) other) p.1 in
      labels_else (is_open s) other (labels_in s ls) q.1 (labels_stmt s ls q.0 c)
  labels_kind (while_stmt e s) ls h c = labels_stmt s ls (both (is_source_expr e) (is_source_stmt s) h).1 c
  labels_kind (do_stmt s e) ls h c = labels_stmt s ls (both (is_source_stmt s) (is_source_expr e) h).0 c
  labels_kind (for_stmt x y z s) ls h c = labels_stmt s ls (both (is_source_option x && (is_source_option y && is_source_option z)) (is_source_stmt s) h).1 c
  labels_kind (label_stmt l s) ls h c = let p = both (is_plain_name l) (is_source_stmt s) h in labels_stmt s (put l tt ls) p.1 (put_label l ls p.0 c)
  labels_kind empty_stmt ls h c = c
  labels_kind (expr_stmt e) ls h c = c
  labels_kind break_stmt ls h c = c
  labels_kind continue_stmt ls h c = c
  labels_kind (return_stmt e) ls h c = c
  labels_kind (goto_stmt l) ls h c = c
  labels_kind (decl_stmt d) ls h c = c
  labels_kind (emb_stmt n) ls h c = c
  labels_kind (mark_stmt opens) ls h c = c

  labels_items : (ss : StmtList) (ls : Named (Unit {0})) → are_source_items ss ≡ true → PlainTable ls → PlainTable (labels_in_all ss ls)
  labels_items no_stmts ls h c = c
  labels_items (stmts s ss) ls h c = let p = both (is_source_item s) (are_source_items ss) h in labels_items ss (labels_in s ls) p.1 (labels_item s ls p.0 c)

  labels_item : (s : StmtData) (ls : Named (Unit {0})) → is_source_item s ≡ true → PlainTable ls → PlainTable (labels_in s ls)
  labels_item (stmt line kind) ls h c = labels_kind kind ls (both (is_line line.0) (is_item_alone kind || is_source_kind kind) h).1 c

  labels_else : (opens : Bool) (o : StmtOption) (ls : Named (Unit {0})) → is_source_else opens o ≡ true → PlainTable ls → PlainTable (labels_in_option o ls)
  labels_else opens no_stmt ls h c = c
  labels_else opens (some_stmt s) ls h c = labels_stmt s ls (both (not opens) (is_source_stmt s) h).1 c

-- those of a function
pub labels_plain : (ss : StmtList) → are_source_items ss ≡ true → PlainLabels (labels_in_all ss [])
labels_plain ss h = λ l e. found_label l (labels_in_all ss []) (labels_items ss [] h tt) e

-- ---- statements

condition_rule_quiet : (at : Place) (o : OperandData) → Quiet (condition_rule at o)
unfolding condition_rule
condition_rule_quiet at o = if_some o.type (pure_holds _ tt) (λ t. demand_quiet _ _ _)

condition_quiet : (at : Place) (e : ExprData) → is_source_expr e ≡ true → Quiet (condition at e)
condition_quiet at e s = chained (valued at (expr_quiet at e s)) (λ o h. condition_rule_quiet at o)

optional_quiet : (at : Place) (e : Option ExprData) → is_source_option e ≡ true → Quiet (optional at e)
optional_quiet at None s = pure_holds _ tt
optional_quiet at (Some e) s = chained (expr_quiet at e s) (λ o h. pure_holds _ tt)

optional_condition_quiet : (at : Place) (e : Option ExprData) → is_source_option e ≡ true → Quiet (optional_condition at e)
optional_condition_quiet at None s = pure_holds _ tt
optional_condition_quiet at (Some e) s = condition_quiet at e s

return_rule_quiet : (at : Place) (r : Option TyData) (o : OperandData) → Quiet (return_rule at r o)
unfolding return_rule
return_rule_quiet at None o = pure_holds _ tt
return_rule_quiet at (Some t) o = if_some o.type (pure_holds _ tt) (λ t. demand_quiet _ _ _)

nothing_quiet : (at : Place) (r : Option TyData) → Quiet (return_nothing at r)
unfolding return_nothing
nothing_quiet at None = pure_holds _ tt
nothing_quiet at (Some t) = demand_quiet _ _ _

return_quiet : (at : Place) (r : Option TyData) (e : Option ExprData) → is_source_option e ≡ true → Quiet (return_by at r e)
return_quiet at r None s = nothing_quiet at r
return_quiet at r (Some e) s = chained (valued at (expr_quiet at e s)) (λ o h. return_rule_quiet at r o)

-- each of these numbers is that of a statement of which this holds
abbrev pub AllOf : (ℕ → Type 0) → List ℕ → Type 0
AllOf P [] = Unit {0}
AllOf P (n ∷ ns) = P n × AllOf P ns

-- so is each that these numbers are put before
abbrev pub Before : (ℕ → Type 0) → (List ℕ → List ℕ) → Type 0
Before P f = (ns : List ℕ) → AllOf P ns → AllOf P (f ns)

embedded_at_known : (a : Around) (at : Place) (n : ℕ) (e : Option EmbData) → slice_get a.embs n ≡ e → AreSimple a.embs → PlainLabels a.labels → Holds (embedded_at a at n e) (λ u. IsKnown a.embs n)
embedded_at_known a at n None i s l = pure_holds _ (λ e j. absurd (clash i j))
  where
    clash : {e : EmbData} → slice_get a.embs n ≡ None → slice_get a.embs n ≡ Some e → ⊥
    clash i j = cc
embedded_at_known a at n (Some e) i s l = gives (embedded_known a.embs s a.is_body a.in_loop a.labels at n e l i) (λ u h. known h)
  where
    known : HasKnownNames a.embs e → IsKnown a.embs n
    known h f j = let same : Some e ≡ Some f = sym i ∙ j in let these : e ≡ f = cc in subst (HasKnownNames a.embs) these h

abbrev Known : Around → (List ℕ → List ℕ) → Type 0
Known a f = Before (IsKnown a.embs) f

mutual
  pub statement_known : (a : Around) (s : StmtData) → is_source_stmt s ≡ true → AreSimple a.embs → PlainLabels a.labels → Holds (statement a s) (λ u. Known a (stmt_numbers s))
  statement_known a (stmt line kind) h s l = chained (place_quiet line) (λ at p. kind_known a at kind (second_is (is_item_alone kind) (is_source_kind kind) (both (is_line line.0) (is_source_kind kind) h).1) s l)

  kind_known : (a : Around) (at : Place) (kind : StmtKindData) → (is_item_alone kind || is_source_kind kind) ≡ true → AreSimple a.embs → PlainLabels a.labels → Holds (statement_kind a at kind) (λ u. Known a (kind_numbers kind))
  kind_known a at empty_stmt h s l = pure_holds _ (λ ns k. k)
  kind_known a at (expr_stmt e) h s l = chained (expr_quiet at e h) (λ o p. pure_holds _ (λ ns k. k))
  kind_known a at (block_stmt ss) h s l = scoped_holds (statements_known (as_item a) ss h s l)
  kind_known a at (if_stmt e t other) h s l =
      let p = both (is_source_expr e) (is_source_stmt t && is_source_else (is_open t) other) h in
      let q = both (is_source_stmt t) (is_source_else (is_open t) other) p.1 in
      scoped_holds (chained (condition_quiet at e p.0) (λ x u. chained (scoped_holds (statement_known (as_body a) t q.0 s l)) (λ y k. gives (otherwise_known (as_body a) (is_open t) other q.1 s l) (λ v m ns b. k (else_numbers other ns) (m ns b)))))
  kind_known a at (while_stmt e t) h s l = let p = both (is_source_expr e) (is_source_stmt t) h in scoped_holds (chained (condition_quiet at e p.0) (λ x u. scoped_holds (statement_known (looping a) t p.1 s l)))
  kind_known a at (do_stmt t e) h s l = let p = both (is_source_stmt t) (is_source_expr e) h in scoped_holds (chained (scoped_holds (statement_known (looping a) t p.0 s l)) (λ x k. gives (condition_quiet at e p.1) (λ u v. k)))
  kind_known a at (for_stmt x y z t) h s l =
      let p = both (is_source_option x && (is_source_option y && is_source_option z)) (is_source_stmt t) h in
      let q = both (is_source_option x) (is_source_option y && is_source_option z) p.0 in
      let r = both (is_source_option y) (is_source_option z) q.1 in
      scoped_holds (chained (optional_quiet at x q.0) (λ b u. chained (optional_condition_quiet at y r.0) (λ c v. chained (optional_quiet at z r.1) (λ d w. scoped_holds (statement_known (looping a) t p.1 s l)))))
  kind_known a at break_stmt h s l = gives (demand_quiet _ _ _) (λ u v ns k. k)
  kind_known a at continue_stmt h s l = gives (demand_quiet _ _ _) (λ u v ns k. k)
  kind_known a at (return_stmt e) h s l = gives (return_quiet at a.result e h) (λ u v ns k. k)
  kind_known a at (goto_stmt x) h s l = gives (demand_quiet _ _ _) (λ u v ns k. k)
  kind_known a at (label_stmt x t) h s l = chained (label_quiet at x) (λ b p. statement_known (as_body a) t (both (is_plain_name x) (is_source_stmt t) h).1 s l)
  kind_known a at (decl_stmt d) h s l = gives (declaration_quiet false d (or_false (is_source_decl d) h)) (λ u v ns k. k)
  kind_known a at (emb_stmt n) h s l = gives (embedded_at_known a at n (slice_get a.embs n) refl s l) (λ u v ns k. (v, k))
  kind_known a at (mark_stmt opens) h s l = pure_holds _ (λ ns k. k)

  pub statements_known : (a : Around) (ss : StmtList) → are_source_items ss ≡ true → AreSimple a.embs → PlainLabels a.labels → Holds (statements a ss) (λ u. Known a (stmts_numbers ss))
  statements_known a no_stmts h s l = pure_holds _ (λ ns k. k)
  statements_known a (stmts t ts) h s l =
      let p = both (is_source_item t) (are_source_items ts) h in
      chained (item_known a t p.0 s l) (λ x k. gives (statements_known a ts p.1 s l) (λ u m ns b. k (stmts_numbers ts ns) (m ns b)))

  item_known : (a : Around) (s : StmtData) → is_source_item s ≡ true → AreSimple a.embs → PlainLabels a.labels → Holds (statement a s) (λ u. Known a (stmt_numbers s))
  item_known a (stmt line kind) h s l = chained (place_quiet line) (λ at p. kind_known a at kind (both (is_line line.0) (is_item_alone kind || is_source_kind kind) h).1 s l)

  otherwise_known : (a : Around) (opens : Bool) (o : StmtOption) → is_source_else opens o ≡ true → AreSimple a.embs → PlainLabels a.labels → Holds (otherwise a o) (λ u. Known a (else_numbers o))
  otherwise_known a opens no_stmt h s l = pure_holds _ (λ ns k. k)
  otherwise_known a opens (some_stmt t) h s l = scoped_holds (statement_known a t (both (not opens) (is_source_stmt t) h).1 s l)
