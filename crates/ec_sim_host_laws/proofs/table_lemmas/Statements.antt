-- Tables stay as they are to be by declarations and statements.
use Rattle.std.proofs.Common.{◌≡◌, ℕ, zero, suc, Bool, true, false, List, [], ◌++◌, refl, sym, subst, Option, Some, None}
use Rattle.std.specs.Prelude.{slice_get}
use Rattle.ec_base.specs.declared.fault.FaultKind.TheVariants.{F14}
use Rattle.ec_base.specs.declared.fault.LimitKind.TheVariants.{L1}
use Rattle.ec_ctypes.specs.trees.Types.{TyData, void, arithmetic, pointer, array, structure}
use Rattle.ec_ctypes.specs.trees.Exprs.{ExprData, BaseData, words, varchar, tagged, struct_base, DimList, InitOption, no_init, some_init, DeclaratorData, declarator, DeclaratorList, no_declarators, declarators, DeclData, decl}
use Rattle.ec_ctypes.specs.trees.Stmts.{StmtData, stmt, StmtKindData, empty_stmt, expr_stmt, block_stmt, if_stmt, while_stmt, do_stmt, for_stmt, break_stmt, continue_stmt, return_stmt, goto_stmt, label_stmt, decl_stmt, emb_stmt, mark_stmt, StmtList, no_stmts, stmts, StmtOption, no_stmt, some_stmt}
use Rattle.ec_ctypes.specs.trees.Embedded.{EmbData}
use Rattle.ec_language.specs.Letters.{Text}
use Rattle.ec_typing_defs.specs.Operands.{OperandData, within_rule, complete_rule}
use Rattle.ec_typing_defs.specs.Worlds.{Place, StructInfo, World, Rule, chain, pure, ask, note, keep_within, next_number, number_as, is_complete, arrays_within}
use Rattle.ec_typing_defs.specs.Expressions.{is_varchar, has_init}
use Rattle.ec_typing_defs.specs.Statements.{type_or_void, waits_for_length, object_rule, initial, object_type, object_item, object_items, declared_tag, tag_alone, specifier, declaration, Around, as_body, looping, as_item, condition_rule, condition, optional, optional_condition, return_rule, return_nothing, return_by, embedded_at, statement, statement_kind, statements, otherwise}
use Rattle.ec_sim_world_laws.specs.place.Structs.{EachStruct}
use Rattle.ec_sim_world_laws.proofs.closing_lemmas.Lists.{false_not}
use Rattle.ec_sim_world_laws.proofs.closing_lemmas.Orders.{complete_sized, each_struct, complete_structs, ListedStay}
use Rattle.ec_sim_world_laws.proofs.closing_lemmas.Rules.{keep_same}
use Rattle.ec_sim_host_laws.proofs.table_lemmas.Full.{IsFullInit, IsFullItem, AreFullItems, IsFullDecl, IsFullStmt, IsFullKind, AreFullStmts, IsFullElse}
use Rattle.ec_sim_host_laws.proofs.table_lemmas.Fitting.{first_true, second_true, is_plain, IsFlatIn, IsPlainIn, declared_plain, Listed, listed_stays, IsFit, IsFitIn, plain_fit, fit_in_stays}
use Rattle.ec_sim_host_laws.proofs.table_lemmas.Rules.{OnlyIf, if_so, if_both, if_then, Nothing, Keeping, chained, chained_from, asked, pure_keeps, demand_keeps, place_keeps, chosen, if_some, scoped_keeps, free_tag_keeps, declare_keeps, better_keeps, label_keeps, At, wherever, followed_by, quietly, asked_at, number_at}
use Rattle.ec_sim_host_laws.proofs.table_lemmas.Operands.{elements_keeps, within_keeps, complete_keeps}
use Rattle.ec_sim_host_laws.proofs.table_lemmas.Expressions.{keep_small, varchar_object_flat, base_flat, tagged_keeps, varchar_object_keeps, valued, expr_keeps, base_keeps, lengths_keep, last_keeps, outer_keep}
use Rattle.ec_sim_host_laws.proofs.table_lemmas.Initializers.{IsOpen, sized_open, BeforeIn, MadeIn, initializer_made, initializer_keeps}
use Rattle.ec_sim_host_laws.proofs.table_lemmas.EmbeddedRules.{embedded_keeps}

-- ---- declarations

object_keeps : {quiet : Bool} (at : Place) (has : Bool) (t : Option TyData) → Keeping quiet (object_rule at has t)
unfolding object_rule
object_keeps at has None = pure_keeps _
object_keeps at has (Some t) = asked _ _ (λ known. chosen _ (pure_keeps _) (complete_keeps at (Some t)))

initial_keeps : {quiet : Bool} (at : Place) (global : Bool) (t : Option TyData) (i : InitOption) → Keeping quiet (initial at global t i)
initial_keeps at global t no_init = pure_keeps _
initial_keeps at global t (some_init i) = initializer_keeps at global t i

type_keeps : {quiet : Bool} (at : Place) (v : Bool) (t : Option TyData) (stars : ℕ) (name : Text) (ns : DimList) → Keeping quiet (object_type at v t stars name ns)
type_keeps at false t stars name ns = chained (lengths_keep at ns) (λ sizes. chained (elements_keeps at t stars sizes) (λ a. pure_keeps _))
type_keeps at true t stars name ns = chained (last_keeps at ns) (λ n. chained (varchar_object_keeps at name n) (λ own. chained (outer_keep at ns) (λ sizes. chained (elements_keeps at own stars sizes) (λ a. pure_keeps _))))

-- ---- an object

type_plain : (at : Place) (v : Bool) (t : Option TyData) (stars : ℕ) (name : Text) (ns : DimList) → IsFlatIn t → (w : World) → IsPlainIn (object_type at v t stars name ns w).answer
unfolding chain pure
type_plain at false t stars name ns flat w = declared_plain t stars _ flat
type_plain at true t stars name ns flat w = declared_plain _ stars _ (varchar_object_flat at name _ _)

-- its type before its initializer is read, if it has one
abbrev MadeBy : Bool → List StructInfo → Option TyData → Type 0
MadeBy true ss t = BeforeIn ss t
MadeBy false ss t = MadeIn ss t

made_before : (has : Bool) (ss : List StructInfo) (t : TyData) → MadeIn ss (Some t) → MadeBy has ss (Some t)
made_before true ss t h = (h.0, (h.1.0, sized_open t h.1.1))
made_before false ss t h = h

waits_before : (has : Bool) (t : TyData) (w : World) → waits_for_length has t w ≡ true → (has ≡ true) × (EachStruct (Listed w.structs) t × IsOpen t)
waits_before has void w e = false_not e
waits_before has (arithmetic a) w e = false_not e
waits_before has (pointer t) w e = false_not e
waits_before has (array t zero) w e =
    let c = second_true has (is_complete w t) e in
    (first_true has (is_complete w t) e, (complete_structs w (Listed w.structs) (λ k h. h) t c, complete_sized w t c))
waits_before has (array t (suc n)) w e = false_not e
waits_before has (structure k) w e = false_not e

abbrev MadeAt : Bool → World → Option TyData → Type 0
MadeAt has x t = MadeBy has x.structs t

none_made : (has : Bool) (ss : List StructInfo) → MadeBy has ss None
none_made true ss = tt
none_made false ss = tt

complete_made : (at : Place) (has : Bool) (t : TyData) (w : World) → is_plain t ≡ true → (b : Bool) → is_complete w t ≡ b
    → MadeAt has (elim b as (λ _. Rule (Option TyData)) [ true ↦ pure (Some t) | false ↦ chain (note at F14) (λ u. pure None) ] w).world (elim b as (λ _. Rule (Option TyData)) [ true ↦ pure (Some t) | false ↦ chain (note at F14) (λ u. pure None) ] w).answer
unfolding chain pure note
complete_made at has t w plain true e = made_before has w.structs t (plain, (complete_structs w (Listed w.structs) (λ k h. h) t e, complete_sized w t e))
complete_made at has t w plain false e = none_made has w.structs

waits_made : (at : Place) (has : Bool) (t : TyData) (w : World) → is_plain t ≡ true → (b : Bool) → waits_for_length has t w ≡ b
    → MadeAt has (elim b as (λ _. Rule (Option TyData)) [ true ↦ pure (Some t) | false ↦ complete_rule at (Some t) ] w).world (elim b as (λ _. Rule (Option TyData)) [ true ↦ pure (Some t) | false ↦ complete_rule at (Some t) ] w).answer
unfolding chain pure ask complete_rule
waits_made at has t w plain true e =
    let p = waits_before has t w e in
    subst (λ b. MadeBy b w.structs (Some t)) (sym p.0) (plain, p.1)
waits_made at has t w plain false e = complete_made at has t w plain (is_complete w t) refl

object_made : (at : Place) (has : Bool) (t : Option TyData) (w : World) → IsPlainIn t → MadeAt has (object_rule at has t w).world (object_rule at has t w).answer
unfolding chain pure ask object_rule
object_made at has None w plain = none_made has w.structs
object_made at has (Some t) w plain = waits_made at has t w plain (waits_for_length has t w) refl

initial_made : (quiet : Bool) (ss : List StructInfo) (at : Place) (global : Bool) (t : Option TyData) (i : InitOption) → OnlyIf quiet (IsFullInit i) → MadeBy (has_init i) ss t → (w : World)
    → OnlyIf quiet (MadeIn ss (initial at global t i w).answer)
unfolding pure
initial_made quiet ss at global t no_init full h w = if_so quiet h
initial_made quiet ss at global t (some_init i) full h w = if_then quiet (λ f. initializer_made ss at global t i f h w) full

made_stays : (ss us : List StructInfo) → ListedStay ss us → (t : Option TyData) → MadeIn ss t → MadeIn us t
made_stays ss us stay None h = tt
made_stays ss us stay (Some t) h = (h.0, (each_struct (Listed ss) (Listed us) (listed_stays ss us stay) t h.1.0, h.1.1))

before_stays : (ss us : List StructInfo) → ListedStay ss us → (t : Option TyData) → BeforeIn ss t → BeforeIn us t
before_stays ss us stay None h = tt
before_stays ss us stay (Some t) h = (h.0, (each_struct (Listed ss) (Listed us) (listed_stays ss us stay) t h.1.0, h.1.1))

made_by_stays : (has : Bool) (ss us : List StructInfo) → ListedStay ss us → (t : Option TyData) → MadeBy has ss t → MadeBy has us t
made_by_stays true ss us stay t h = before_stays ss us stay t h
made_by_stays false ss us stay t h = made_stays ss us stay t h

-- its type fits behind the test of its arrays
small_fit : (at : Place) (t : Option TyData) (x : World) → MadeIn x.structs t → Nothing (within_rule at t x).found → IsFitIn (within_rule at t x).world.structs t
unfolding within_rule chain ask
small_fit at None x h e = tt
small_fit at (Some t) x h e =
    subst (λ z. IsFitIn z.structs (Some t)) (sym (keep_same at L1 (arrays_within x t) x))
    (plain_fit x t h.0 h.1.1 h.1.0 (keep_small at (arrays_within x t) x (by_none e)))
  where
    by_none : Nothing ([] ++ (keep_within at L1 (arrays_within x t) x).found) → Nothing (keep_within at L1 (arrays_within x t) x).found
    by_none e = e

void_fit : (ss : List StructInfo) (t : Option TyData) → IsFitIn ss t → IsFit ss (type_or_void t)
void_fit ss None h = tt
void_fit ss (Some t) h = h

-- one declaration more
pub number_in : {quiet : Bool} (x : World) (t : Option TyData) → OnlyIf quiet (IsFitIn x.structs t) → At quiet x (number_as (type_or_void t))
number_in {quiet = quiet} x t fits = number_at x (type_or_void t) (if_then quiet (void_fit x.structs t) fits)

item_at : {quiet : Bool} (at : Place) (global v : Bool) (t : Option TyData) (d : DeclaratorData) → IsFlatIn t → OnlyIf quiet (IsFullItem d) → (w : World) → At quiet w (object_item at global v t d)
item_at {quiet = quiet} at global v t (declarator stars name ns init) flat full w =
    followed_by (λ x whole. IsPlainIn whole) (type_keeps at v t stars name ns) (λ e. type_plain at v t stars name ns flat w) (λ x whole stay plain.
    quietly (within_keeps at whole) (λ x u stay. followed_by (MadeAt (has_init init)) (object_keeps at (has_init init) whole) (λ e. object_made at (has_init init) whole x plain) (λ x before stay made.
    asked_at next_number _ x (quietly (declare_keeps at name _) (λ y u stay. followed_by (λ z ty. OnlyIf quiet (MadeIn y.structs ty)) (initial_keeps at global before init)
    (λ e. initial_made quiet y.structs at global before init full (made_by_stays (has_init init) x.structs y.structs stay before made) y) (λ z ty stay made.
    followed_by (λ x u. OnlyIf quiet (IsFitIn x.structs ty)) (within_keeps at ty) (λ e. if_both quiet (λ m n. small_fit at ty z (made_stays y.structs z.structs stay ty m) n) made e) (λ x u stay fits.
    quietly (better_keeps name _) (λ z u stay. number_in z ty (if_then quiet (fit_in_stays x.structs z.structs stay ty) fits)))))))))

item_keeps : {quiet : Bool} (at : Place) (global v : Bool) (t : Option TyData) (d : DeclaratorData) → IsFlatIn t → OnlyIf quiet (IsFullItem d) → Keeping quiet (object_item at global v t d)
item_keeps at global v t d flat full = wherever (λ w. item_at at global v t d flat full w)

items_keep : {quiet : Bool} (at : Place) (global v : Bool) (t : Option TyData) (ds : DeclaratorList) → IsFlatIn t → OnlyIf quiet (AreFullItems ds) → Keeping quiet (object_items at global v t ds)
items_keep at global v t no_declarators flat full = pure_keeps _
items_keep {quiet = quiet} at global v t (declarators d ds) flat full =
    chained (item_keeps at global v t d flat (if_then quiet (λ p. p.0) full)) (λ a. items_keep at global v t ds flat (if_then quiet (λ p. p.1) full))

declared_keeps : {quiet : Bool} (tag : Text) (k : Option ℕ) → Keeping quiet (declared_tag tag k)
declared_keeps tag None = chained (tagged_keeps tag) (λ a. pure_keeps _)
declared_keeps tag (Some k) = pure_keeps _

alone_keeps : {quiet : Bool} (at : Place) (tag : Text) → Keeping quiet (tag_alone at tag)
unfolding tag_alone
alone_keeps at tag = chained (free_tag_keeps at tag) (λ a. asked _ _ (λ known. declared_keeps tag _))

specifier_keeps : {quiet : Bool} (at : Place) (b : BaseData) (ds : DeclaratorList) → Keeping quiet (specifier at b ds)
specifier_keeps at (tagged tag) no_declarators = alone_keeps at tag
specifier_keeps at (tagged tag) (declarators d ds) = base_keeps at (tagged tag)
specifier_keeps at (words ws) ds = base_keeps at (words ws)
specifier_keeps at varchar ds = base_keeps at varchar
specifier_keeps at (struct_base t ms) ds = base_keeps at (struct_base t ms)

declared_flat : (tag : Text) (k : Option ℕ) (w : World) → IsFlatIn (declared_tag tag k w).answer
unfolding chain pure
declared_flat tag None w = tt
declared_flat tag (Some k) w = tt

alone_flat : (at : Place) (tag : Text) (w : World) → IsFlatIn (tag_alone at tag w).answer
unfolding tag_alone chain ask
alone_flat at tag w = declared_flat tag _ _

specifier_flat : (at : Place) (b : BaseData) (ds : DeclaratorList) (w : World) → IsFlatIn (specifier at b ds w).answer
specifier_flat at (tagged tag) no_declarators w = alone_flat at tag w
specifier_flat at (tagged tag) (declarators d ds) w = base_flat at (tagged tag) w
specifier_flat at (words ws) ds w = base_flat at (words ws) w
specifier_flat at varchar ds w = base_flat at varchar w
specifier_flat at (struct_base t ms) ds w = base_flat at (struct_base t ms) w

pub declaration_keeps : {quiet : Bool} (global : Bool) (d : DeclData) → OnlyIf quiet (IsFullDecl d) → Keeping quiet (declaration global d)
declaration_keeps global (decl b items section line) full = chained (place_keeps line) (λ at. chained_from IsFlatIn (specifier_keeps at b items) (specifier_flat at b items) (λ t flat. items_keep at global (is_varchar b) t items flat full))

-- ---- statements

scalar_keeps : {quiet : Bool} (at : Place) (o : OperandData) → Keeping quiet (condition_rule at o)
unfolding condition_rule
scalar_keeps at o = if_some o.type (pure_keeps _) (λ t. demand_keeps _ _ _)

condition_keeps : {quiet : Bool} (at : Place) (e : ExprData) → Keeping quiet (condition at e)
condition_keeps at e = chained (valued at (expr_keeps at e)) (λ o. scalar_keeps at o)

optional_keeps : {quiet : Bool} (at : Place) (e : Option ExprData) → Keeping quiet (optional at e)
optional_keeps at None = pure_keeps _
optional_keeps at (Some e) = chained (expr_keeps at e) (λ o. pure_keeps _)

optional_condition_keeps : {quiet : Bool} (at : Place) (e : Option ExprData) → Keeping quiet (optional_condition at e)
optional_condition_keeps at None = pure_keeps _
optional_condition_keeps at (Some e) = condition_keeps at e

value_keeps : {quiet : Bool} (at : Place) (r : Option TyData) (o : OperandData) → Keeping quiet (return_rule at r o)
unfolding return_rule
value_keeps at None o = pure_keeps _
value_keeps at (Some s) o = if_some o.type (pure_keeps _) (λ t. demand_keeps _ _ _)

nothing_keeps : {quiet : Bool} (at : Place) (r : Option TyData) → Keeping quiet (return_nothing at r)
unfolding return_nothing
nothing_keeps at None = pure_keeps _
nothing_keeps at (Some s) = demand_keeps _ _ _

return_keeps : {quiet : Bool} (at : Place) (r : Option TyData) (e : Option ExprData) → Keeping quiet (return_by at r e)
return_keeps at r None = nothing_keeps at r
return_keeps at r (Some e) = chained (valued at (expr_keeps at e)) (λ o. value_keeps at r o)

embedded_at_keeps : {quiet : Bool} (a : Around) (at : Place) (n : ℕ) (e : Option EmbData) → Keeping quiet (embedded_at a at n e)
embedded_at_keeps a at n None = pure_keeps _
embedded_at_keeps a at n (Some e) = embedded_keeps a.embs a.is_body a.in_loop a.labels at n e

mutual
  pub statement_keeps : {quiet : Bool} (a : Around) (s : StmtData) → OnlyIf quiet (IsFullStmt s) → Keeping quiet (statement a s)
  statement_keeps a (stmt line kind) full = chained (place_keeps line) (λ at. kind_keeps a at kind full)

  kind_keeps : {quiet : Bool} (a : Around) (at : Place) (kind : StmtKindData) → OnlyIf quiet (IsFullKind kind) → Keeping quiet (statement_kind a at kind)
  kind_keeps a at empty_stmt full = pure_keeps _
  kind_keeps a at (expr_stmt e) full = chained (expr_keeps at e) (λ o. pure_keeps _)
  kind_keeps a at (block_stmt ss) full = scoped_keeps (statements_keep (as_item a) ss full)
  kind_keeps {quiet = quiet} a at (if_stmt e s other) full =
      scoped_keeps (chained (condition_keeps at e) (λ x. chained (scoped_keeps (statement_keeps (as_body a) s (if_then quiet (λ p. p.0) full))) (λ y. otherwise_keeps (as_body a) other (if_then quiet (λ p. p.1) full))))
  kind_keeps a at (while_stmt e s) full = scoped_keeps (chained (condition_keeps at e) (λ x. scoped_keeps (statement_keeps (looping a) s full)))
  kind_keeps a at (do_stmt s e) full = scoped_keeps (chained (scoped_keeps (statement_keeps (looping a) s full)) (λ x. condition_keeps at e))
  kind_keeps a at (for_stmt x y z s) full =
      scoped_keeps (chained (optional_keeps at x) (λ b. chained (optional_condition_keeps at y) (λ c. chained (optional_keeps at z) (λ d. scoped_keeps (statement_keeps (looping a) s full)))))
  kind_keeps a at break_stmt full = demand_keeps _ _ _
  kind_keeps a at continue_stmt full = demand_keeps _ _ _
  kind_keeps a at (return_stmt e) full = return_keeps at a.result e
  kind_keeps a at (goto_stmt l) full = demand_keeps _ _ _
  kind_keeps a at (label_stmt l s) full = chained (label_keeps at l) (λ x. statement_keeps (as_body a) s full)
  kind_keeps a at (decl_stmt d) full = declaration_keeps false d full
  kind_keeps a at (emb_stmt n) full = embedded_at_keeps a at n (slice_get a.embs n)
  kind_keeps a at (mark_stmt opens) full = pure_keeps _

  pub statements_keep : {quiet : Bool} (a : Around) (ss : StmtList) → OnlyIf quiet (AreFullStmts ss) → Keeping quiet (statements a ss)
  statements_keep a no_stmts full = pure_keeps _
  statements_keep {quiet = quiet} a (stmts s ss) full = chained (statement_keeps a s (if_then quiet (λ p. p.0) full)) (λ x. statements_keep a ss (if_then quiet (λ p. p.1) full))

  otherwise_keeps : {quiet : Bool} (a : Around) (o : StmtOption) → OnlyIf quiet (IsFullElse o) → Keeping quiet (otherwise a o)
  otherwise_keeps a no_stmt full = pure_keeps _
  otherwise_keeps a (some_stmt s) full = scoped_keeps (statement_keeps a s full)
