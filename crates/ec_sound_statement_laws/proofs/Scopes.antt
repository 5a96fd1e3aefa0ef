-- Each scope that is entered is left again.
use Rattle.std.proofs.Common.{◌≡◌, ◌∙◌, ℕ, suc, Bool, true, false, ◌||◌, List, [], ◌∷◌, ◌++◌, length, refl, ap, subst, Option, Some, None, slice_get}
use Rattle.std.specs.Prelude.{is_some}
use Rattle.ec_base.specs.declared.fault.FaultKind.{FaultKind}
use Rattle.ec_base.specs.declared.fault.FaultKind.TheVariants.{F10}
use Rattle.ec_ctypes.specs.trees.Types.{TyData}
use Rattle.ec_ctypes.specs.trees.Exprs.{DeclaratorData, declarator, DeclaratorList, no_declarators, declarators, DeclData, decl}
use Rattle.ec_ctypes.specs.trees.Stmts.{StmtData, stmt, StmtKindData, empty_stmt, expr_stmt, block_stmt, if_stmt, while_stmt, do_stmt, for_stmt, break_stmt, continue_stmt, return_stmt, goto_stmt, label_stmt, decl_stmt, emb_stmt, mark_stmt, StmtList, no_stmts, stmts, StmtOption, no_stmt, some_stmt}
use Rattle.ec_ctypes.specs.trees.Embedded.{EmbData}
use Rattle.ec_ctypes.specs.trees.Units.{ParamData, FuncData}
use Rattle.ec_language.specs.Letters.{Text}
use Rattle.ec_typing_defs.specs.Expressions.{base, is_varchar, has_init}
use Rattle.ec_typing_defs.specs.Operands.{declared_type}
use Rattle.ec_typing_defs.specs.Tables.{find, put}
use Rattle.ec_typing_defs.specs.Statements.{type_or_void, object_item, object_items, declaration, Around, as_body, looping, as_item, embedded_at, statement, statement_kind, statements, otherwise}
use Rattle.ec_typing_defs.specs.Programs.{result_rule, is_done, may_follow, put_outside, begin_function, know_function, declare_param, param, params, body_rule, function_rule}
use Rattle.ec_typing_defs.specs.Worlds.{Place, EntryData, function, ScopeData, World, Rule, chain, pure, ask, change, note, demand, place, next_number, entered, left_to, left, enter, leave, scoped, free_name, declare, know_better, number_as}
use Rattle.ec_sim_world_laws.proofs.known_lemmas.EntriesTables.{put_twice}
use Rattle.ec_sim_world_laws.proofs.known_lemmas.NamesRules as names
use Rattle.ec_sim_world_laws.proofs.known_lemmas.NamesRules.{Staying, demand_stays, place_stays, free_name_stays, label_stays}
use Rattle.ec_sim_world_laws.proofs.known_lemmas.NamesOperands.{elements_stays, within_stays}
use Rattle.ec_sim_world_laws.proofs.known_lemmas.NamesExpressions.{expr_stays, base_stays, lengths_stay}
use Rattle.ec_sim_world_laws.proofs.known_lemmas.NamesEmbedded.{embedded_stays}
use Rattle.ec_sim_world_laws.proofs.known_lemmas.NamesStatements.{object_stays, initial_stays, type_stays, specifier_stays, condition_stays, optional_stays, optional_condition_stays, return_stays, result_stays, param_type_stays, new_labels_stay}
use Rattle.ec_sound_statement_laws.specs.Scopes.{Keeps, Leaves, IsKnownAs}

-- ---- what rules are put together from

pub chained : {A B : Type 0} {m : Rule A} {f : A → Rule B} → Keeps m → ((a : A) → Keeps (f a)) → Keeps (chain m f)
unfolding chain
chained {m = m} {f = f} h k = record { outer = λ w. (k (m w).answer).outer (m w).world ∙ h.outer w }

pub stay : {A : Type 0} {m : Rule A} → Staying m → Keeps m
stay h = record { outer = λ w. (h.stays w).outer }

pub pure_keeps : {A : Type 0} (a : A) → Keeps (pure a)
pure_keeps a = stay (names.pure_stays a)

asked : {A B : Type 0} (g : World → A) (f : A → Rule B) → ((a : A) → Keeps (f a)) → Keeps (chain (ask g) f)
asked g f k = chained (stay (names.ask_stays g)) k

changed : (g : World → World) → ((w : World) → (g w).outer ≡ w.outer) → Keeps (change g)
unfolding change
changed g e = record { outer = e }

pub left_here : (w : World) (s : ScopeData) (ss : List ScopeData) → w.outer ≡ s ∷ ss → (left w).here ≡ s
left_here w s ss e = ap (λ os. (left_to os w).here) e

pub left_outer : (w : World) (s : ScopeData) (ss : List ScopeData) → w.outer ≡ s ∷ ss → (left w).outer ≡ ss
left_outer w s ss e = ap (λ os. (left_to os w).outer) e

pub scoped_leaves : {m : Rule (Unit {0})} → Keeps m → Leaves (scoped m)
unfolding chain enter leave change
scoped_leaves {m = m} h = record {
  here = λ w. left_here (m (entered w)).world w.here w.outer (h.outer (entered w));
  outer = λ w. left_outer (m (entered w)).world w.here w.outer (h.outer (entered w));
}

pub scoped_keeps : {m : Rule (Unit {0})} → Keeps m → Keeps (scoped m)
scoped_keeps h = let l = scoped_leaves h in record { outer = l.outer }

-- ---- declarations

declare_keeps : (at : Place) (name : Text) (entry : EntryData) → Keeps (declare at name entry)
unfolding declare
declare_keeps at name entry = asked _ _ (λ before. chained (changed _ (λ w. refl)) (λ a. chained (stay (demand_stays _ _ _)) (λ b. stay (free_name_stays at name))))

better_keeps : (name : Text) (entry : EntryData) → Keeps (know_better name entry)
unfolding know_better
better_keeps name entry = changed _ (λ w. refl)

number_keeps : (t : TyData) → Keeps (number_as t)
unfolding number_as
number_keeps t = changed _ (λ w. refl)

item_keeps : (at : Place) (global v : Bool) (t : Option TyData) (d : DeclaratorData) → Keeps (object_item at global v t d)
item_keeps at global v t (declarator stars name ns init) =
    chained (stay (type_stays at v t stars name ns)) (λ whole. chained (stay (within_stays at whole)) (λ a.
    chained (stay (object_stays at (has_init init) whole)) (λ before. asked _ _ (λ k. chained (declare_keeps at name _) (λ b.
    chained (stay (initial_stays at global before init)) (λ ty. chained (stay (within_stays at ty)) (λ c.
    chained (better_keeps name _) (λ d. number_keeps _))))))))

items_keep : (at : Place) (global v : Bool) (t : Option TyData) (ds : DeclaratorList) → Keeps (object_items at global v t ds)
items_keep at global v t no_declarators = pure_keeps _
items_keep at global v t (declarators d ds) = chained (item_keeps at global v t d) (λ a. items_keep at global v t ds)

pub declaration_keeps : (global : Bool) (d : DeclData) → Keeps (declaration global d)
declaration_keeps global (decl b items section line) =
    chained (stay (place_stays line)) (λ at. chained (stay (specifier_stays at b items)) (λ t. items_keep at global (is_varchar b) t items))

-- ---- statements

embedded_at_keeps : (a : Around) (at : Place) (n : ℕ) (e : Option EmbData) → Keeps (embedded_at a at n e)
embedded_at_keeps a at n None = pure_keeps _
embedded_at_keeps a at n (Some e) = stay (embedded_stays a.embs a.is_body a.in_loop a.labels at n e)

mutual
  pub statement_keeps : (a : Around) (x : StmtData) → Keeps (statement a x)
  statement_keeps a (stmt line kind) = chained (stay (place_stays line)) (λ at. kind_keeps a at kind)

  kind_keeps : (a : Around) (at : Place) (kind : StmtKindData) → Keeps (statement_kind a at kind)
  kind_keeps a at empty_stmt = pure_keeps _
  kind_keeps a at (expr_stmt e) = chained (stay (expr_stays at e)) (λ o. pure_keeps _)
  kind_keeps a at (block_stmt ss) = scoped_keeps (statements_keep (as_item a) ss)
  kind_keeps a at (if_stmt e s other) =
      scoped_keeps (chained (stay (condition_stays at e)) (λ x. chained (scoped_keeps (statement_keeps (as_body a) s)) (λ y. otherwise_keeps (as_body a) other)))
  kind_keeps a at (while_stmt e s) = scoped_keeps (chained (stay (condition_stays at e)) (λ x. scoped_keeps (statement_keeps (looping a) s)))
  kind_keeps a at (do_stmt s e) = scoped_keeps (chained (scoped_keeps (statement_keeps (looping a) s)) (λ x. stay (condition_stays at e)))
  kind_keeps a at (for_stmt x y z s) =
      scoped_keeps (chained (stay (optional_stays at x)) (λ b. chained (stay (optional_condition_stays at y)) (λ c. chained (stay (optional_stays at z)) (λ d. scoped_keeps (statement_keeps (looping a) s)))))
  kind_keeps a at break_stmt = stay (demand_stays _ _ _)
  kind_keeps a at continue_stmt = stay (demand_stays _ _ _)
  kind_keeps a at (return_stmt e) = stay (return_stays at a.result e)
  kind_keeps a at (goto_stmt l) = stay (demand_stays _ _ _)
  kind_keeps a at (label_stmt l s) = chained (stay (label_stays at l)) (λ x. statement_keeps (as_body a) s)
  kind_keeps a at (decl_stmt d) = declaration_keeps false d
  kind_keeps a at (emb_stmt n) = embedded_at_keeps a at n (slice_get a.embs n)
  kind_keeps a at (mark_stmt opens) = pure_keeps _

  pub statements_keep : (a : Around) (ss : StmtList) → Keeps (statements a ss)
  statements_keep a no_stmts = pure_keeps _
  statements_keep a (stmts s ss) = chained (statement_keeps a s) (λ x. statements_keep a ss)

  otherwise_keeps : (a : Around) (o : StmtOption) → Keeps (otherwise a o)
  otherwise_keeps a no_stmt = pure_keeps _
  otherwise_keeps a (some_stmt s) = scoped_keeps (statement_keeps a s)

-- ---- functions

declare_param_keeps : (at : Place) (defined : Bool) (name : Option Text) (k : ℕ) (t : Option TyData) → Keeps (declare_param at defined name k t)
declare_param_keeps at defined None k t = stay (demand_stays _ _ _)
declare_param_keeps at defined (Some name) k t = declare_keeps at name _

param_keeps : (at : Place) (defined : Bool) (q : ParamData) → Keeps (param at defined q)
param_keeps at defined q =
    chained (stay (base_stays at q.base)) (λ b. chained (stay (lengths_stay at q.dims)) (λ sizes. chained (stay (elements_stays at b q.stars sizes)) (λ u.
    chained (stay (param_type_stays at b q.stars sizes)) (λ t. asked _ _ (λ k. chained (declare_param_keeps at defined q.name k t) (λ a. chained (number_keeps _) (λ c. pure_keeps _)))))))

pub params_keep : (at : Place) (defined : Bool) (qs : List ParamData) → Keeps (params at defined qs)
params_keep at defined [] = pure_keeps _
params_keep at defined (q ∷ qs) = chained (param_keeps at defined q) (λ t. chained (params_keep at defined qs) (λ ts. pure_keeps _))

params_count : (at : Place) (defined : Bool) (qs : List ParamData) (w : World) → length (params at defined qs w).answer ≡ length qs
unfolding chain pure
params_count at defined [] w = refl
params_count at defined (q ∷ qs) w = ap (λ n. suc n) (params_count at defined qs (param at defined q w).world)

body_keeps : (es : List EmbData) (r : Option TyData) (b : Option StmtList) → Keeps (body_rule es r b)
body_keeps es r None = pure_keeps _
body_keeps es r (Some ss) = chained (stay new_labels_stay) (λ a. statements_keep _ ss)

pub both_none : {A : Type 0} (vs us : List A) → vs ++ us ≡ [] → (vs ≡ []) × (us ≡ [])
both_none [] us e = (refl, e)
both_none (v ∷ vs) us e = absurd (cc)

pub demanded : (at : Place) (kind : FaultKind) (b : Bool) (w : World) → (demand at kind b w).found ≡ [] → b ≡ true
unfolding demand note
demanded at kind true w e = refl
demanded at kind false w e = absurd (cc)

-- behind the scope of its parameters
abbrev function_behind : List EmbData → Place → FuncData → ℕ → Bool → Option TyData → Option EntryData → Rule (Unit {0})
function_behind es at f k done r before =
    chain (params at (is_some f.body) f.params) (λ ps. chain (know_function f.name (function k done r (Some ps))) (λ a. chain (demand at F10 (may_follow (is_some f.body) r ps before)) (λ b. chain (body_rule es r f.body) (λ c. leave))))

record Behind (f : FuncData) (k : ℕ) (done : Bool) (r : Option TyData) (before : Option EntryData) (s : ScopeData) (ss : List ScopeData) (z : World) : Type 0 where
  parameters : List (Option TyData)
  count : length parameters ≡ length f.params
  names : z.here.names ≡ put f.name (function k done r (Some parameters)) s.names
  outer : z.outer ≡ ss
  follows : may_follow (is_some f.body) r parameters before ≡ true

behind_known : (es : List EmbData) (at : Place) (f : FuncData) (k : ℕ) (done : Bool) (r : Option TyData) (before : Option EntryData) (s : ScopeData) (ss : List ScopeData) (w : World)
    → w.outer ≡ s ∷ ss → (function_behind es at f k done r before w).found ≡ [] → Behind f k done r before s ss (function_behind es at f k done r before w).world
unfolding chain know_function leave change
behind_known es at f k done r before s ss w e found =
    let o = params at (is_some f.body) f.params w in
    let entry = function k done r (Some o.answer) in
    let x : World = record o.world { outer = put_outside f.name entry o.world.outer } in
    let d = demand at F10 (may_follow (is_some f.body) r o.answer before) x in
    let b = body_rule es r f.body d.world in
    let in_outer : b.world.outer ≡ (record { names = put f.name entry s.names; tags = s.tags }) ∷ ss =
    (body_keeps es r f.body).outer d.world ∙ ((demand_stays at F10 (may_follow (is_some f.body) r o.answer before)).stays x).outer ∙ ap (λ os. put_outside f.name entry os) ((params_keep at (is_some f.body) f.params).outer w ∙ e) in
    let first = both_none o.found (d.found ++ (b.found ++ [])) found in
    let second = both_none d.found (b.found ++ []) first.1 in
    record {
      parameters = o.answer;
      count = params_count at (is_some f.body) f.params w;
      names = ap (λ sc. sc.names) (left_here b.world (record { names = put f.name entry s.names; tags = s.tags }) ss in_outer);
      outer = left_outer b.world (record { names = put f.name entry s.names; tags = s.tags }) ss in_outer;
      follows = demanded at F10 (may_follow (is_some f.body) r o.answer before) x second.0;
    }

pub function_known : (es : List EmbData) (f : FuncData) (w : World) → (function_rule es f w).found ≡ [] → IsKnownAs f w (function_rule es f w).world
unfolding chain ask place begin_function number_as enter change
function_known es f w found =
    let at : Place = (place f.line w).answer in
    let p = (place f.line w).world in
    let b = base at f.base p in
    let r = result_rule at (declared_type b.answer f.stars []) b.world in
    let k = next_number r.world in
    let before = find f.name r.world.here.names in
    let done = is_done before || is_some f.body in
    let first = function k done r.answer None in
    let x : World = record r.world { here = record { names = put f.name first r.world.here.names; tags = r.world.here.tags } } in
    let y = free_name at f.name x in
    let z : World = record y.world { types = y.world.types ++ type_or_void r.answer ∷ [] } in
    let l = function_behind es at f k done r.answer before (entered z) in
    let e = both_none y.found l.found (both_none r.found (y.found ++ l.found) (both_none b.found (r.found ++ (y.found ++ l.found)) found).1).1 in
    let h = behind_known es at f k done r.answer before z.here z.outer (entered z) refl e.1 in
    let same : r.world.here.names ≡ w.here.names = ((result_stays at (declared_type b.answer f.stars [])).stays b.world).here ∙ ((base_stays at f.base).stays p).here in
    let kept : y.world.here.names ≡ x.here.names = ((free_name_stays at f.name).stays x).here in
    record {
      number = k;
      result = r.answer;
      parameters = h.parameters;
      count = h.count;
      names = h.names ∙ ap (λ ns. put f.name (function k done r.answer (Some h.parameters)) ns) kept
          ∙ put_twice f.name first (function k done r.answer (Some h.parameters)) r.world.here.names
          ∙ ap (λ ns. put f.name (function k (is_done (find f.name ns) || is_some f.body) r.answer (Some h.parameters)) ns) same;
      outer = h.outer ∙ ((free_name_stays at f.name).stays x).outer ∙ ((result_stays at (declared_type b.answer f.stars [])).stays b.world).outer ∙ ((base_stays at f.base).stays p).outer;
      follows = subst (λ ns. may_follow (is_some f.body) r.answer h.parameters (find f.name ns) ≡ true) same h.follows;
    }
