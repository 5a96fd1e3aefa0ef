-- Declarations make the objects of the innermost block, and each block that is entered is left again.
use Rattle.std.proofs.Common.{◌≡◌, ◌∙◌, ℕ, suc, ◌+◌, Bool, true, false, List, [], ◌∷◌, ◌++◌, length, refl, sym, ap, subst, Option, Some, None, arith}
use Rattle.std.specs.Prelude.{slice_get}
use Rattle.ec_ctypes.specs.trees.Types.{TyData}
use Rattle.ec_ctypes.specs.trees.Exprs.{ExprData, call, BaseData, words, varchar, tagged, struct_base, DimList, InitOption, no_init, some_init, DeclaratorData, declarator, DeclaratorList, no_declarators, declarators, DeclData, decl}
use Rattle.ec_ctypes.specs.trees.Stmts.{StmtData, stmt, StmtKindData, empty_stmt, expr_stmt, block_stmt, if_stmt, while_stmt, do_stmt, for_stmt, break_stmt, continue_stmt, return_stmt, goto_stmt, label_stmt, decl_stmt, emb_stmt, mark_stmt, StmtList, no_stmts, stmts as stmt_list, StmtOption, no_stmt, some_stmt}
use Rattle.ec_ctypes.specs.trees.Embedded.{ActionData, continue_action, goto_action, print_action, stop_action, break_action, next_action, call_action, EmbData}
use Rattle.ec_ctypes.specs.trees.Units.{ParamData}
use Rattle.ec_ctypes.specs.declared.embedded.emb.Cond.TheVariants.{NotFound, Warning, Error}
use Rattle.ec_language.specs.Letters.{Text}
use Rattle.ec_typing_defs.specs.Expressions.{is_varchar}
use Rattle.ec_typing_defs.specs.Tables.{Named}
use Rattle.ec_typing_defs.specs.Worlds.{Place, object, World, Rule, next_number, number_as, declare, know_better}
use Rattle.ec_typing_defs.specs.Statements.{type_or_void}
use Rattle.ec_typing_defs.specs.Programs.{declare_param}
use Rattle.ec_meaning_defs.specs.resolved.Resolved.{Stm}
use Rattle.ec_typing_defs.specs.statement_parts.Handlers.{is_directive, handler}
use Rattle.ec_typing_defs.specs.statement_parts.References.{References, references}
use Rattle.ec_resolving_defs.specs.Operands.{no_expression}
use Rattle.ec_resolving_defs.specs.Storage.{with_site, with_object_of, no_actions, Storage, Resolving, chain, pure, checks, ask, stored, arrange, in_block, inside_block, next_site}
use Rattle.ec_resolving_defs.specs.Expressions.{expr}
use Rattle.ec_resolving_defs.specs.Embedded.{reference_rule, references_rule, action_rule, actions_rule, handlers_rule, embedded_rule}
use Rattle.ec_resolving_defs.specs.Initializers.{PartData}
use Rattle.ec_resolving_defs.specs.Statements.{Around, size_of_type, object_made, initial, object_type, object_item, object_items, specifier, declaration, scoped, condition, alone, optional, optional_condition, return_by, embedded_at, statement, statement_kind, statements, otherwise, declarators_in, objects_of_decl, objects_in, objects_in_kind, objects_in_all, objects_in_option}
use Rattle.ec_resolving_defs.specs.Programs.{param, params}
use Rattle.ec_sound_statement_laws.specs.Objects.{Spares, Makes}
use Rattle.ec_sound_statement_laws.proofs.Sparing as sparing
use Rattle.ec_sound_statement_laws.proofs.Sparing.{expr_spares, base_spares, lengths_spare, last_spares, outer_spare, initializer_spares, checks_spare, ask_spares, pure_spares, stored_spares}

-- ---- what rules are put together from

pub chained : {a b c : ℕ} {A B : Type 0} {m : Resolving A} {f : A → Resolving B} → Makes a b m → ((x : A) → Makes b c (f x)) → Makes a c (chain m f)
unfolding chain
chained {m = m} {f = f} h k = record {
  below = λ s w. (k (m s w).answer).below (m s w).storage (m s w).world ∙ h.below s w;
  count = λ s w. (k (m s w).answer).count (m s w).storage (m s w).world ∙ h.count s w;
  sizes = λ s w. (k (m s w).answer).sizes (m s w).storage (m s w).world ∙ h.sizes s w;
  functions = λ s w. (k (m s w).answer).functions (m s w).storage (m s w).world ∙ h.functions s w;
  defined = λ s w. (k (m s w).answer).defined (m s w).storage (m s w).world ∙ h.defined s w;
}

-- what leaves the block as it is
pub spared : {n : ℕ} {A : Type 0} {m : Resolving A} → Spares m → Makes n n m
spared {n = n} h = record {
  below = λ s w. ap (λ t. t.block.below) (h.stays s w);
  count = λ s w. ap (λ t. t.block.count) (h.stays s w);
  sizes = λ s w. ap (λ t. length t.block.sizes + n) (h.stays s w);
  functions = λ s w. ap (λ t. t.functions) (h.stays s w);
  defined = λ s w. ap (λ t. t.defined) (h.stays s w);
}

checked : {n : ℕ} {A : Type 0} (m : Rule A) → Makes n n (checks m)
checked m = spared (checks_spare m)

looked : {n : ℕ} {A : Type 0} (g : World → A) → Makes n n (ask g)
looked g = spared (ask_spares g)

read : {n : ℕ} {A : Type 0} (g : Storage → A) → Makes n n (stored g)
read g = spared (stored_spares g)

given : {n : ℕ} {A : Type 0} (a : A) → Makes n n (pure a)
given a = spared (pure_spares a)

-- what leaves the block alone
pub arranged : {n : ℕ} (g : Storage → Storage) → ((s : Storage) → (g s).block ≡ s.block) → ((s : Storage) → (g s).functions ≡ s.functions) → ((s : Storage) → (g s).defined ≡ s.defined) → Makes n n (arrange g)
unfolding arrange
arranged {n = n} g e f d = record {
  below = λ s w. ap (λ b. b.below) (e s);
  count = λ s w. ap (λ b. b.count) (e s);
  sizes = λ s w. ap (λ b. length b.sizes + n) (e s);
  functions = λ s w. f s;
  defined = λ s w. d s;
}

one_longer : (xs : List ℕ) (x n : ℕ) → length (xs ++ x ∷ []) + n ≡ length xs + suc n
one_longer [] x n = omega (arith)
one_longer (y ∷ ys) x n = let e = one_longer ys x n in omega (arith, e)

pub made_one : {n : ℕ} (size : ℕ) → Makes (suc n) n (arrange (with_object_of size))
unfolding arrange
made_one {n = n} size = record { below = λ s w. refl; count = λ s w. refl; sizes = λ s w. one_longer s.block.sizes size n; functions = λ s w. refl; defined = λ s w. refl }

-- ---- a block further in

pub in_block_makes : {n a b : ℕ} {A : Type 0} (k : ℕ) (m : Resolving A) → Makes a b m → Makes n n (in_block k m)
unfolding chain stored arrange pure
in_block_makes k m h = record { below = λ s w. refl; count = λ s w. refl; sizes = λ s w. refl; functions = λ s w. h.functions (inside_block k s) w; defined = λ s w. h.defined (inside_block k s) w }

counted : (x y : ℕ) → x + 0 ≡ 0 + y → x ≡ y
counted x y e = omega (arith, e)

more_none : (x : ℕ) → x + 0 ≡ x
more_none x = omega (arith)

pub in_block_full : {A : Type 0} (k : ℕ) (m : Resolving A) → Makes (k + 0) 0 m → (s : Storage) (w : World) → length (in_block k m s w).answer.0 ≡ k
unfolding chain stored arrange pure
in_block_full k m h s w = counted (length (m (inside_block k s) w).storage.block.sizes) k (h.sizes (inside_block k s) w ∙ ap (λ x. 0 + x) (more_none k))

-- ---- declarations

initial_makes : {n : ℕ} (at : Place) (global : Bool) (t : Option TyData) (i : InitOption) → Makes n n (initial at global t i)
initial_makes at global t no_init = given _
initial_makes at global t (some_init i) = spared (initializer_spares at global t i)

type_makes : {n : ℕ} (at : Place) (v : Bool) (t : Option TyData) (stars : ℕ) (name : Text) (ns : DimList) → Makes n n (object_type at v t stars name ns)
type_makes at false t stars name ns = chained (spared (lengths_spare at ns)) (λ sizes. (given _))
type_makes at true t stars name ns = chained (spared (last_spares at ns)) (λ n. chained (checked _) (λ own. chained (spared (outer_spare at ns)) (λ sizes. (given _))))

-- an object at file level makes none of a block, and one in a function makes one
abbrev pub next_count : Bool → ℕ → ℕ
next_count true n = n
next_count false n = suc n

pub made_makes : (n : ℕ) (global : Bool) (s : Storage) (size : ℕ) (init : InitOption) (ps : List PartData) → Makes (next_count global n) n (object_made (next_site global s) size init ps)
made_makes n true s size init ps = chained (arranged _ (λ t. refl) (λ t. refl) (λ t. refl)) (λ u. (given _))
made_makes n false s size init ps = chained (made_one size) (λ u. (given _))

-- the site is that of the storage there
at_site : {a b : ℕ} {A B : Type 0} (g : Storage → A) (f : A → Resolving B) → ((s : Storage) → Makes a b (f (g s))) → Makes a b (chain (stored g) f)
unfolding chain stored
at_site g f h = record { below = λ s w. (h s).below s w; count = λ s w. (h s).count s w; sizes = λ s w. (h s).sizes s w; functions = λ s w. (h s).functions s w; defined = λ s w. (h s).defined s w }

-- behind the type of an object
abbrev pub object_rest : Place → Bool → Text → InitOption → Option TyData → Resolving (List Stm)
object_rest at global name init before =
    chain (ask next_number) (λ k. chain (checks (declare at name (object k global before))) (λ _. chain (stored (next_site global)) (λ site. chain (arrange (with_site site)) (λ _.
    chain (initial at global before init) (λ made. chain (checks (know_better name (object k global made.0))) (λ _. chain (checks (number_as (type_or_void made.0))) (λ _.
    chain (ask (λ w. size_of_type w made.0)) (λ size. object_made site size init made.1))))))))

pub rest_makes : (n : ℕ) (at : Place) (global : Bool) (name : Text) (init : InitOption) (before : Option TyData) → Makes (next_count global n) n (object_rest at global name init before)
rest_makes n at global name init before =
    chained (looked _) (λ k.
    chained (checked _) (λ a.
    at_site (next_site global) _ (λ s.
    chained (arranged _ (λ t. refl) (λ t. refl) (λ t. refl)) (λ b.
    chained (initial_makes at global before init) (λ made.
    chained (checked _) (λ c.
    chained (checked _) (λ d.
    chained (looked _) (λ size. made_makes n global s size init made.1))))))))

item_makes : (n : ℕ) (at : Place) (global v : Bool) (t : Option TyData) (d : DeclaratorData) → Makes (next_count global n) n (object_item at global v t d)
item_makes n at global v t (declarator stars name ns init) =
    chained (type_makes at v t stars name ns) (λ whole. chained (checked _) (λ before. rest_makes n at global name init before))

-- by numbers that are the same
pub from : {a b c : ℕ} {A : Type 0} {m : Resolving A} → a ≡ b → Makes b c m → Makes a c m
from {c = c} {m = m} e h = subst (λ k. Makes k c m) (sym e) h

pub none_more : (n : ℕ) → 0 + n ≡ n
none_more n = omega (arith)

pub one_more : (k n : ℕ) → suc k + n ≡ suc (k + n)
one_more k n = omega (arith)

pub both_more : (j k n : ℕ) → (j + k) + n ≡ j + (k + n)
both_more j k n = omega (arith)

items_make : (n : ℕ) (at : Place) (v : Bool) (t : Option TyData) (ds : DeclaratorList) → Makes (declarators_in ds + n) n (object_items at false v t ds)
items_make n at v t no_declarators = from (none_more n) (given _)
items_make n at v t (declarators d ds) = from (one_more (declarators_in ds) n) (chained (item_makes (declarators_in ds + n) at false v t d) (λ first. chained (items_make n at v t ds) (λ more. (given _))))

globals_make : (n : ℕ) (at : Place) (v : Bool) (t : Option TyData) (ds : DeclaratorList) → Makes n n (object_items at true v t ds)
globals_make n at v t no_declarators = given _
globals_make n at v t (declarators d ds) = chained (item_makes n at true v t d) (λ first. chained (globals_make n at v t ds) (λ more. (given _)))

specifier_makes : {n : ℕ} (at : Place) (b : BaseData) (ds : DeclaratorList) → Makes n n (specifier at b ds)
specifier_makes at (tagged tag) no_declarators = checked _
specifier_makes at (tagged tag) (declarators d ds) = spared (base_spares at (tagged tag))
specifier_makes at (words ws) ds = spared (base_spares at (words ws))
specifier_makes at varchar ds = spared (base_spares at varchar)
specifier_makes at (struct_base t ms) ds = spared (base_spares at (struct_base t ms))

pub declaration_makes : (n : ℕ) (d : DeclData) → Makes (objects_of_decl d + n) n (declaration false d)
declaration_makes n (decl b items section line) = chained (checked _) (λ at. chained (specifier_makes at b items) (λ t. items_make n at (is_varchar b) t items))

pub global_makes : (n : ℕ) (d : DeclData) → Makes n n (declaration true d)
global_makes n (decl b items section line) = chained (checked _) (λ at. chained (specifier_makes at b items) (λ t. globals_make n at (is_varchar b) t items))

-- ---- embedded statements

reference_spares : (at : Place) (e : ExprData) → Spares (reference_rule at e)
reference_spares at e = sparing.asked _ _ (λ alone. by_name alone)
  where
    by_name : (b : Bool) → Spares (elim b [ true ↦ pure no_expression | false ↦ expr at e ])
    by_name true = pure_spares _
    by_name false = expr_spares at e

references_spare : (at : Place) (rs : References) → Spares (references_rule at rs)
references_spare at [] = pure_spares _
references_spare at (r ∷ rs) = sparing.chained (reference_spares at r.value) (λ f. sparing.chained (references_spare at rs) (λ more. pure_spares _))

alone_spares : (at : Place) (e : ExprData) → Spares (alone at e)
alone_spares at e = sparing.chained (expr_spares at e) (λ f. ask_spares _)

action_spares : (labels : Named (Unit {0})) (at : Place) (a : Option ActionData) → Spares (action_rule labels at a)
action_spares labels at None = pure_spares _
action_spares labels at (Some continue_action) = pure_spares _
action_spares labels at (Some (goto_action l)) = pure_spares _
action_spares labels at (Some print_action) = pure_spares _
action_spares labels at (Some stop_action) = pure_spares _
action_spares labels at (Some break_action) = pure_spares _
action_spares labels at (Some next_action) = pure_spares _
action_spares labels at (Some (call_action f es)) = sparing.chained (alone_spares at (call f es)) (λ e. pure_spares _)

handlers_spare : (es : List EmbData) (labels : Named (Unit {0})) (at : Place) (e : EmbData) → Spares (handlers_rule es labels at e)
handlers_spare es labels at e = by_directive (is_directive e)
  where
    by_directive : (b : Bool) → Spares (elim b [ true ↦ pure no_actions | false ↦ actions_rule es labels at e ])
    by_directive true = pure_spares _
    by_directive false = sparing.chained (action_spares labels at (handler es e.place NotFound)) (λ a. sparing.chained (action_spares labels at (handler es e.place Warning)) (λ b. sparing.chained (action_spares labels at (handler es e.place Error)) (λ c. pure_spares _)))

pub embedded_makes : {n : ℕ} (es : List EmbData) (labels : Named (Unit {0})) (at : Place) (k : ℕ) (e : EmbData) → Makes n n (embedded_rule es labels at k e)
embedded_makes es labels at k e = chained (spared (references_spare at (references e))) (λ rs. chained (checked _) (λ u. chained (spared (handlers_spare es labels at e)) (λ actions. arranged _ (λ s. refl) (λ s. refl) (λ s. refl))))

embedded_at_makes : {n : ℕ} (a : Around) (at : Place) (k : ℕ) (e : Option EmbData) → Makes n n (embedded_at a at k e)
embedded_at_makes a at k None = given _
embedded_at_makes a at k (Some e) = embedded_makes a.embs a.labels at k e

-- ---- statements

condition_makes : {n : ℕ} (at : Place) (e : ExprData) → Makes n n (condition at e)
condition_makes at e = chained (spared (sparing.valued at (expr_spares at e))) (λ f. (given _))

optional_makes : {n : ℕ} (at : Place) (e : Option ExprData) → Makes n n (optional at e)
optional_makes at None = given _
optional_makes at (Some e) = chained (spared (alone_spares at e)) (λ x. (given _))

optional_condition_makes : {n : ℕ} (at : Place) (e : Option ExprData) → Makes n n (optional_condition at e)
optional_condition_makes at None = given _
optional_condition_makes at (Some e) = chained (condition_makes at e) (λ x. (given _))

return_makes : {n : ℕ} (at : Place) (r : Option TyData) (e : Option ExprData) → Makes n n (return_by at r e)
return_makes at r None = given _
return_makes at r (Some e) = chained (spared (sparing.valued at (expr_spares at e))) (λ f. (given _))

pub scoped_makes : {a b : ℕ} {A : Type 0} {m : Resolving A} → Makes a b m → Makes a b (scoped m)
scoped_makes h = chained (checked _) (λ u. chained h (λ x. chained (checked _) (λ v. (given _))))

mutual
  pub statement_makes : (a : Around) (n : ℕ) (x : StmtData) → Makes (objects_in x + n) n (statement a x)
  statement_makes a n (stmt line kind) = chained (checked _) (λ at. chained (kind_makes a n at kind) (λ s. (given _)))

  kind_makes : (a : Around) (n : ℕ) (at : Place) (kind : StmtKindData) → Makes (objects_in_kind kind + n) n (statement_kind a at kind)
  kind_makes a n at empty_stmt = from (none_more n) (given _)
  kind_makes a n at (expr_stmt e) = from (none_more n) (chained (spared (alone_spares at e)) (λ x. (given _)))
  kind_makes a n at (block_stmt ss) = from (none_more n) (chained (in_block_makes (objects_in_all ss) (scoped (statements a ss)) (scoped_makes (statements_make a 0 ss))) (λ b. (given _)))
  kind_makes a n at (if_stmt e s other) = from (both_more (objects_in s) (objects_in_option other) n)
      (scoped_makes (chained (condition_makes at e) (λ x. chained (scoped_makes (statement_makes a (objects_in_option other + n) s)) (λ y. chained (otherwise_makes a n other) (λ z. (given _))))))
  kind_makes a n at (while_stmt e s) = scoped_makes (chained (condition_makes at e) (λ x. chained (scoped_makes (statement_makes a n s)) (λ y. (given _))))
  kind_makes a n at (do_stmt s e) = scoped_makes (chained (scoped_makes (statement_makes a n s)) (λ y. chained (condition_makes at e) (λ x. (given _))))
  kind_makes a n at (for_stmt x y z s) =
      scoped_makes (chained (optional_makes at x) (λ first. chained (optional_condition_makes at y) (λ test. chained (optional_makes at z) (λ behind. chained (scoped_makes (statement_makes a n s)) (λ body. (given _))))))
  kind_makes a n at break_stmt = from (none_more n) (given _)
  kind_makes a n at continue_stmt = from (none_more n) (given _)
  kind_makes a n at (return_stmt e) = from (none_more n) (return_makes at a.result e)
  kind_makes a n at (goto_stmt l) = from (none_more n) (given _)
  kind_makes a n at (label_stmt l s) = chained (checked _) (λ u. chained (statement_makes a n s) (λ x. (given _)))
  kind_makes a n at (decl_stmt d) = chained (declaration_makes n d) (λ ss. (given _))
  kind_makes a n at (emb_stmt k) = from (none_more n) (chained (embedded_at_makes a at k (slice_get a.embs k)) (λ u. (given _)))
  kind_makes a n at (mark_stmt opens) = from (none_more n) (given _)

  pub statements_make : (a : Around) (n : ℕ) (ss : StmtList) → Makes (objects_in_all ss + n) n (statements a ss)
  statements_make a n no_stmts = from (none_more n) (given _)
  statements_make a n (stmt_list s ss) = from (both_more (objects_in s) (objects_in_all ss) n) (chained (statement_makes a (objects_in_all ss + n) s) (λ x. chained (statements_make a n ss) (λ xs. (given _))))

  otherwise_makes : (a : Around) (n : ℕ) (o : StmtOption) → Makes (objects_in_option o + n) n (otherwise a o)
  otherwise_makes a n no_stmt = from (none_more n) (given _)
  otherwise_makes a n (some_stmt s) = scoped_makes (statement_makes a n s)

-- ---- functions

-- behind the type of a parameter
abbrev pub param_rest : Place → Bool → Option Text → Option TyData → Resolving (Option TyData)
param_rest at defined name t =
    chain (ask next_number) (λ k. chain (checks (declare_param at defined name k t)) (λ _. chain (checks (number_as (type_or_void t))) (λ _. chain (stored (next_site false)) (λ site.
    chain (arrange (with_site site)) (λ _. chain (ask (λ w. size_of_type w t)) (λ size. chain (arrange (with_object_of size)) (λ _. pure t)))))))

pub param_rest_makes : (n : ℕ) (at : Place) (defined : Bool) (name : Option Text) (t : Option TyData) → Makes (suc n) n (param_rest at defined name t)
param_rest_makes n at defined name t =
    chained (looked _) (λ k.
    chained (checked _) (λ a.
    chained (checked _) (λ c.
    chained (read _) (λ site.
    chained (arranged _ (λ s. refl) (λ s. refl) (λ s. refl)) (λ d.
    chained (looked _) (λ size.
    chained (made_one size) (λ e. (given _))))))))

param_makes : (n : ℕ) (at : Place) (defined : Bool) (p : ParamData) → Makes (suc n) n (param at defined p)
param_makes n at defined p =
    chained (spared (base_spares at p.base)) (λ b. chained (spared (lengths_spare at p.dims)) (λ sizes. chained (checked _) (λ t. param_rest_makes n at defined p.name t)))

pub params_make : (n : ℕ) (at : Place) (defined : Bool) (ps : List ParamData) → Makes (length ps + n) n (params at defined ps)
params_make n at defined [] = from (none_more n) (given _)
params_make n at defined (p ∷ ps) = from (one_more (length ps) n) (chained (param_makes (length ps + n) at defined p) (λ t. chained (params_make n at defined ps) (λ ts. (given _))))
