-- The same of initializers, declarations, statements, functions and programs.
use Rattle.std.proofs.Common.{◌≡◌, ◌∙◌, ℕ, List, [], ◌∷◌, Bool, true, false, Option, Some, None, refl}
use Rattle.std.specs.Prelude.{is_some, slice_get}
use Rattle.ec_ctypes.specs.trees.Types.{TyData}
use Rattle.ec_ctypes.specs.trees.Exprs.{ExprData, call, BaseData, words, varchar, tagged, struct_base, DimList, InitData, one, many, InitList, no_inits, inits, InitOption, no_init, some_init, DeclaratorData, declarator, DeclaratorList, no_declarators, declarators, DeclData, decl}
use Rattle.ec_base.specs.declared.fault.FaultKind.{FaultKind}
use Rattle.ec_ctypes.specs.declared.embedded.emb.Cond.TheVariants.{NotFound, Warning, Error}
use Rattle.ec_ctypes.specs.trees.Embedded.{ActionData, continue_action, goto_action, print_action, stop_action, break_action, next_action, call_action, EmbData}
use Rattle.ec_typing_defs.specs.statement_parts.Handlers.{is_directive, handler}
use Rattle.ec_typing_defs.specs.statement_parts.References.{References, references}
use Rattle.ec_typing_defs.specs.Tables.{Named}
use Rattle.ec_typing_defs.specs.Embedded as checked_embedded
use Rattle.ec_resolving_defs.specs.Embedded.{reference_rule, references_rule, action_rule, actions_rule, handlers_rule, embedded_rule}
use Rattle.ec_ctypes.specs.trees.Stmts.{StmtData, stmt, StmtKindData, empty_stmt, expr_stmt, block_stmt, if_stmt, while_stmt, do_stmt, for_stmt, break_stmt, continue_stmt, return_stmt, goto_stmt, label_stmt, decl_stmt, emb_stmt, mark_stmt, StmtList, no_stmts, stmts as stmt_list, StmtOption, no_stmt, some_stmt}
use Rattle.ec_ctypes.specs.trees.Units.{ParamData, FuncData, TopData, include_top, directive_top, decl_top, func_top, mark_top}
use Rattle.ec_language.specs.Letters.{Text}
use Rattle.ec_typing_defs.specs.Worlds.{Place, Rule, chain as check_chain, pure as check_pure, enter, leave, free_name, instead}
use Rattle.ec_typing_defs.specs.Operands.{OperandData, within_rule}
use Rattle.ec_typing_defs.specs.Expressions as checked_parts
use Rattle.ec_typing_defs.specs.Initializers as initial_rules
use Rattle.ec_typing_defs.specs.Initializers.{is_text_for, Frames}
use Rattle.ec_typing_defs.specs.Statements as checked
use Rattle.ec_typing_defs.specs.Statements.{Around, as_body, as_item, looping, labels_in_all}
use Rattle.ec_typing_defs.specs.Programs as programs
use Rattle.ec_resolving_defs.specs.Storage.{Site, numbered, slotted, nowhere, ActionForms, no_actions, Resolving, chain, pure, checks, stored, arrange, in_block, inside_block}
use Rattle.ec_resolving_defs.specs.Operands.{Found}
use Rattle.ec_resolving_defs.specs.Initializers.{PartData, stored_at, fixed_exp, init_value, Left, Filled, initializer, fill, fill_part}
use Rattle.ec_resolving_defs.specs.Statements.{object_made, initial, object_type, object_item, object_items, specifier, declaration, scoped, condition, alone, optional, optional_condition, return_by, embedded_at, statement, statement_kind, statements, otherwise}
use Rattle.ec_resolving_defs.specs.Programs.{param, params, body_rule, Body, function_made, function_rule, directive_rule, top_rule, tops_rule}
use Rattle.ec_resolving_defs.specs.Agreement.{Finds, around_of, itself, nothing_of, operand_of}
use Rattle.ec_resolving_defs.proofs.Agreeing.{asked_quiet, elements_quiet, chain_finds, pure_finds, checks_find, ask_finds, ask_first, stored_first, arrange_first, Silent, ask_silent, arrange_silent, pure_silent, chain_silent, silent_last, Quiet, quiet_first, quiet_last, nothing_quiet, demand_quiet, limit_quiet, value_finds, called_name_finds, expr_finds, base_finds, lengths_find, last_length_finds, outer_lengths_find}

-- a rule, and then an answer made of its own
pub then_pure : {A B C : Type 0} (seen : A → B) (seen' : C → B) (m : Resolving A) (n : Rule B) (f : A → C)
    → Finds seen m n → ((a : A) → seen' (f a) ≡ seen a) → Finds seen' (chain m (λ a. pure (f a))) n
unfolding chain pure
then_pure seen seen' m n f p e = record {
  answer = λ s w. e (m s w).answer ∙ p.answer s w;
  world = λ s w. p.world s w;
}

-- ---- initializers

stored_silently : (offset : ℕ) (ty : Option TyData) (e : ExprData) (f : Found) → Silent (stored_at offset ty e f)
unfolding stored_at
stored_silently offset None e f = pure_silent _
stored_silently offset (Some t) e f = by_text (is_text_for f.operand t) _ _ (chain_silent _ _ (arrange_silent _) (λ _. pure_silent _)) (ask_silent _)
  where
    by_text : {A : Type 0} (is_text : Bool) (m n : Resolving A) → Silent m → Silent n → Silent (elim is_text [ true ↦ m | false ↦ n ])
    by_text true m n p q = p
    by_text false m n p q = q

fixed_keeps : (global : Bool) (f : Found) → (fixed_exp global f).operand ≡ f.operand
fixed_keeps true f = refl
fixed_keeps false f = refl

fixed_finds : (global : Bool) (f : Found) → Finds operand_of (pure (fixed_exp global f)) (check_pure f.operand)
fixed_finds true f = pure_finds operand_of _
fixed_finds false f = pure_finds operand_of _

init_value_finds : (at : Place) (global : Bool) (e : ExprData) → Finds operand_of (init_value at global e) (initial_rules.init_value at global e)
init_value_finds at global e =
    chain_finds _ _ _ _ (chain_finds _ _ _ _ (expr_finds at e) (λ f. value_finds at f)) (λ f.
    chain_finds _ _ _ _ (checks_find _) (λ _. fixed_finds global f))

braces_quiet : (at : Place) (t : Option TyData) (is : InitList) → Quiet (initial_rules.braces_rule at t is)
unfolding initial_rules.braces_rule
braces_quiet at None is = nothing_quiet
braces_quiet at (Some t) is = demand_quiet _ _ _

abbrev first_of : {A B : Type 0} → A × B → A
first_of p = p.0

abbrev frames_of : Filled → Option Frames
frames_of r = r.0.frames

-- the type of an initializer, behind what it stores
typed_parts : {A B : Type 0} (n : Rule A) (k : A → Resolving B) → ((a : A) → Silent (k a)) → Finds first_of (chain (checks n) (λ a. chain (k a) (λ b. pure (a, b)))) n
unfolding chain checks pure
typed_parts n k p = record { answer = λ s w. refl; world = λ s w. (p (n w).answer).world s (n w).world }

left_parts : (n : Rule (Option Frames)) (k : Option Frames → Resolving (List PartData)) (l : Option Frames → Left) → ((fs : Option Frames) → (l fs).frames ≡ fs) → ((fs : Option Frames) → Silent (k fs))
    → Finds frames_of (chain (checks n) (λ fs. chain (k fs) (λ parts. pure (l fs, parts)))) n
unfolding chain checks pure
left_parts n k l e p = record { answer = λ s w. e (n w).answer; world = λ s w. (p (n w).answer).world s (n w).world }

mutual
  pub initializer_finds : (at : Place) (global : Bool) (t : Option TyData) (i : InitData) → Finds first_of (initializer at global t i) (initial_rules.initializer at global t i)
  initializer_finds at global t (one e) =
      chain_finds _ _ _ _ (init_value_finds at global e) (λ f. typed_parts _ _ (λ ty. stored_silently 0 t e f))
  initializer_finds at global t (many is) =
      quiet_first _ _ _ (braces_quiet at t is)
      (chain_finds _ _ _ _ (ask_finds _) (λ fs. chain_finds _ _ _ _ (fill_finds at global _ is) (λ filled. pure_finds first_of _)))

  fill_finds : (at : Place) (global : Bool) (l : Left) (is : InitList) → Finds frames_of (fill at global l is) (initial_rules.fill at global l.frames is)
  fill_finds at global l no_inits = pure_finds frames_of (l, [])
  fill_finds at global l (inits i is) =
      chain_finds _ _ _ _ (fill_part_finds at global l i) (λ part. then_pure frames_of frames_of _ _ _ (fill_finds at global part.0 is) (λ more. refl))

  fill_part_finds : (at : Place) (global : Bool) (l : Left) (i : InitData) → Finds frames_of (fill_part at global l i) (initial_rules.fill_part at global l.frames i)
  fill_part_finds at global l (one e) =
      chain_finds _ _ _ _ (init_value_finds at global e) (λ f.
      ask_first _ _ _ (λ goal. left_parts _ _ _ (λ fs. refl) (λ fs. stored_silently goal.offset goal.type e f)))
  fill_part_finds at global l (many is) =
      ask_first _ _ _ (λ next. chain_finds _ _ _ _ (checks_find _) (λ slot.
      quiet_first _ _ _ (braces_quiet at slot.0 is)
      (chain_finds _ _ _ _ (ask_finds _) (λ gs. chain_finds _ _ _ _ (fill_finds at global _ is) (λ inner. pure_finds frames_of _)))))

-- ---- declarations

initial_finds : (at : Place) (global : Bool) (ty : Option TyData) (i : InitOption) → Finds first_of (initial at global ty i) (checked.initial at global ty i)
initial_finds at global ty no_init = pure_finds first_of _
initial_finds at global ty (some_init i) = initializer_finds at global ty i

within_quiet : (at : Place) (t : Option TyData) → Quiet (within_rule at t)
unfolding within_rule
within_quiet at None = nothing_quiet
within_quiet at (Some t) = asked_quiet _ _ (λ small. limit_quiet _ _ _)

object_type_finds : (at : Place) (varchars : Bool) (t : Option TyData) (stars : ℕ) (name : Text) (ns : DimList)
    → Finds itself (object_type at varchars t stars name ns) (checked.object_type at varchars t stars name ns)
object_type_finds at false t stars name ns = chain_finds _ _ _ _ (lengths_find at ns) (λ sizes. quiet_first _ _ _ (elements_quiet at t stars sizes) (pure_finds itself _))
object_type_finds at true t stars name ns =
    chain_finds _ _ _ _ (last_length_finds at ns) (λ n. chain_finds _ _ _ _ (checks_find _) (λ own.
    chain_finds _ _ _ _ (outer_lengths_find at ns) (λ sizes. quiet_first _ _ _ (elements_quiet at own stars sizes) (pure_finds itself _))))

made_silently : (site : Site) (size : ℕ) (init : InitOption) (ps : List PartData) → Silent (object_made site size init ps)
made_silently (numbered n) size init ps = chain_silent _ _ (arrange_silent _) (λ _. pure_silent _)
made_silently (slotted i) size init ps = chain_silent _ _ (arrange_silent _) (λ _. pure_silent _)
made_silently nowhere size init ps = pure_silent _

-- a last rule of the checks, and silent steps behind it
last_finds : {B : Type 0} (n : Rule (Unit {0})) (k : Unit {0} → Resolving B) → Silent (k tt) → Finds nothing_of (chain (checks n) k) n
unfolding chain checks
last_finds n k p = record { answer = λ s w. refl; world = λ s w. p.world s (n w).world }

object_item_finds : (at : Place) (global varchars : Bool) (t : Option TyData) (d : DeclaratorData)
    → Finds nothing_of (object_item at global varchars t d) (checked.object_item at global varchars t d)
object_item_finds at global varchars t (declarator stars name ns init) =
    chain_finds _ _ _ _ (object_type_finds at varchars t stars name ns) (λ whole.
    quiet_first _ _ _ (within_quiet at whole)
    (chain_finds _ _ _ _ (checks_find _) (λ before. chain_finds _ _ _ _ (ask_finds _) (λ k. chain_finds _ _ _ _ (checks_find _) (λ _.
    stored_first _ _ _ (λ site. arrange_first _ _ _
    (chain_finds _ _ _ _ (initial_finds at global before init) (λ made.
    quiet_first _ _ _ (within_quiet at made.0)
    (chain_finds _ _ _ _ (checks_find _) (λ _.
    last_finds _ _ (chain_silent _ _ (ask_silent _) (λ size. made_silently site size init made.1))))))))))))

object_items_find : (at : Place) (global varchars : Bool) (t : Option TyData) (ds : DeclaratorList)
    → Finds nothing_of (object_items at global varchars t ds) (checked.object_items at global varchars t ds)
object_items_find at global varchars t no_declarators = pure_finds nothing_of []
object_items_find at global varchars t (declarators d ds) =
    chain_finds _ _ _ _ (object_item_finds at global varchars t d) (λ first.
    then_pure nothing_of nothing_of _ _ _ (object_items_find at global varchars t ds) (λ more. refl))

specifier_finds : (at : Place) (b : BaseData) (ds : DeclaratorList) → Finds itself (specifier at b ds) (checked.specifier at b ds)
specifier_finds at (tagged tag) no_declarators = checks_find _
specifier_finds at (tagged tag) (declarators d ds) = base_finds at (tagged tag)
specifier_finds at (words ws) ds = base_finds at (words ws)
specifier_finds at varchar ds = base_finds at varchar
specifier_finds at (struct_base tag ms) ds = base_finds at (struct_base tag ms)

pub declaration_finds : (global : Bool) (d : DeclData) → Finds nothing_of (declaration global d) (checked.declaration global d)
declaration_finds global (decl b items section line) =
    chain_finds _ _ _ _ (checks_find _) (λ at. chain_finds _ _ _ _ (specifier_finds at b items) (λ t.
    object_items_find at global (checked_parts.is_varchar b) t items))

-- ---- statements

scoped_finds : {A : Type 0} (m : Resolving A) (n : Rule (Unit {0})) → Finds nothing_of m n → Finds nothing_of (scoped m) (check_chain enter (λ _. check_chain n (λ _. leave)))
scoped_finds m n p = chain_finds _ _ _ _ (checks_find _) (λ _. chain_finds _ _ _ _ p (λ x. last_finds _ _ (pure_silent _)))

pub block_finds : {A B : Type 0} (seen : A → B) (k : ℕ) (m : Resolving A) (n : Rule B) → Finds seen m n → Finds (λ r. seen r.1) (in_block k m) n
unfolding chain stored arrange pure
block_finds seen k m n p = record { answer = λ s w. p.answer (inside_block k s) w; world = λ s w. p.world (inside_block k s) w }

condition_quiet : (at : Place) (o : OperandData) → Quiet (checked.condition_rule at o)
unfolding checked.condition_rule
condition_quiet at o = by_type o.type (λ t. demand_quiet _ _ _)
  where
    by_type : {f : TyData → Rule (Unit {0})} (ty : Option TyData) → ((t : TyData) → Quiet (f t)) → Quiet (elim ty [ None ↦ check_pure tt | Some t ↦ f t ])
    by_type None q = nothing_quiet
    by_type (Some t) q = q t

condition_finds : (at : Place) (e : ExprData) → Finds nothing_of (condition at e) (checked.condition at e)
condition_finds at e = chain_finds _ _ _ _ (chain_finds _ _ _ _ (expr_finds at e) (λ f. value_finds at f)) (λ f. quiet_last _ _ (pure_silent _) (condition_quiet at f.operand))

alone_finds : (at : Place) (e : ExprData) → Finds nothing_of (alone at e) (check_chain (checked_parts.expr at e) (λ _. check_pure tt))
alone_finds at e = chain_finds _ _ _ _ (expr_finds at e) (λ f. silent_last nothing_of _ (ask_silent _))

optional_finds : (at : Place) (e : Option ExprData) → Finds nothing_of (optional at e) (checked.optional at e)
optional_finds at None = pure_finds nothing_of None
optional_finds at (Some e) = then_pure nothing_of nothing_of _ _ _ (alone_finds at e) (λ x. refl)

optional_condition_finds : (at : Place) (e : Option ExprData) → Finds nothing_of (optional_condition at e) (checked.optional_condition at e)
optional_condition_finds at None = pure_finds nothing_of None
optional_condition_finds at (Some e) = then_pure nothing_of nothing_of _ _ _ (condition_finds at e) (λ x. refl)

return_quiet : (at : Place) (r : Option TyData) (o : OperandData) → Quiet (checked.return_rule at r o)
unfolding checked.return_rule
return_quiet at None o = nothing_quiet
return_quiet at (Some s) o = by_type o.type (λ t. demand_quiet _ _ _)
  where
    by_type : {f : TyData → Rule (Unit {0})} (ty : Option TyData) → ((t : TyData) → Quiet (f t)) → Quiet (elim ty [ None ↦ check_pure tt | Some t ↦ f t ])
    by_type None q = nothing_quiet
    by_type (Some t) q = q t

return_nothing_quiet : (at : Place) (r : Option TyData) → Quiet (checked.return_nothing at r)
unfolding checked.return_nothing
return_nothing_quiet at None = nothing_quiet
return_nothing_quiet at (Some s) = demand_quiet _ _ _

return_finds : (at : Place) (r : Option TyData) (e : Option ExprData) → Finds nothing_of (return_by at r e) (checked.return_by at r e)
return_finds at r None = quiet_last _ _ (pure_silent _) (return_nothing_quiet at r)
return_finds at r (Some e) = chain_finds _ _ _ _ (chain_finds _ _ _ _ (expr_finds at e) (λ f. value_finds at f)) (λ f. quiet_last _ _ (pure_silent _) (return_quiet at r f.operand))

-- ---- embedded statements

-- what is found, and a silent step behind it
and_silently : {A B : Type 0} (m : Resolving A) (n : Rule (Unit {0})) (k : A → Resolving B) → Finds nothing_of m n → ((a : A) → Silent (k a)) → Finds nothing_of (chain m k) n
unfolding chain
and_silently m n k p q = record { answer = λ s w. refl; world = λ s w. (q (m s w).answer).world (m s w).storage (m s w).world ∙ p.world s w }

instead_finds : {B : Type 0} (at : Place) (kind : FaultKind) (m : Resolving B) (n : Rule (Unit {0})) → Finds nothing_of m n → Finds nothing_of m (instead at kind n)
unfolding instead
instead_finds at kind m n p = record { answer = λ s w. refl; world = p.world }

reference_finds : (at : Place) (e : ExprData) → Finds operand_of (reference_rule at e) (checked_embedded.reference_rule at e)
unfolding checked_embedded.reference_rule
reference_finds at e = chain_finds _ _ _ _ (ask_finds _) (λ alone. called_name_finds _ _ alone (expr_finds at e))

members_quiet : (at : Place) (is_host : Bool) (ty : Option TyData) → Quiet (checked_embedded.members_rule at is_host ty)
unfolding checked_embedded.members_rule
members_quiet at is_host ty = asked_quiet _ _ (λ few. limit_quiet _ _ _)

references_find : (at : Place) (rs : References) → Finds nothing_of (references_rule at rs) (checked_embedded.references_rule at rs)
references_find at [] = pure_finds nothing_of _
references_find at (r ∷ rs) =
    chain_finds _ _ _ _ (reference_finds at r.value) (λ f. quiet_first _ _ _ (members_quiet _ _ _)
    (then_pure nothing_of nothing_of _ _ _ (references_find at rs) (λ more. refl)))

action_finds : (in_loop : Bool) (labels : Named (Unit {0})) (at : Place) (a : Option ActionData)
    → Finds nothing_of (action_rule labels at a) (checked_embedded.action_rule in_loop labels at a)
action_finds in_loop labels at None = pure_finds nothing_of _
action_finds in_loop labels at (Some continue_action) = pure_finds nothing_of _
action_finds in_loop labels at (Some (goto_action l)) = quiet_last _ _ (pure_silent _) (demand_quiet _ _ _)
action_finds in_loop labels at (Some print_action) = pure_finds nothing_of _
action_finds in_loop labels at (Some stop_action) = pure_finds nothing_of _
action_finds in_loop labels at (Some break_action) = quiet_last _ _ (pure_silent _) (demand_quiet _ _ _)
action_finds in_loop labels at (Some next_action) = quiet_last _ _ (pure_silent _) (demand_quiet _ _ _)
action_finds in_loop labels at (Some (call_action f es)) = instead_finds _ _ _ _ (then_pure nothing_of nothing_of _ _ _ (alone_finds at (call f es)) (λ e. refl))

actions_find : (es : List EmbData) (in_loop : Bool) (labels : Named (Unit {0})) (at : Place) (e : EmbData)
    → Finds nothing_of (actions_rule es labels at e) (checked_embedded.actions_rule es in_loop labels at e)
actions_find es in_loop labels at e =
    chain_finds _ _ _ _ (action_finds in_loop labels at (handler es e.place NotFound)) (λ a.
    chain_finds _ _ _ _ (action_finds in_loop labels at (handler es e.place Warning)) (λ b.
    then_pure nothing_of nothing_of _ _ _ (action_finds in_loop labels at (handler es e.place Error)) (λ c. refl)))

handlers_find : (es : List EmbData) (in_loop : Bool) (labels : Named (Unit {0})) (at : Place) (e : EmbData)
    → Finds nothing_of (handlers_rule es labels at e) (checked_embedded.handlers_rule es in_loop labels at e)
handlers_find es in_loop labels at e = by_kind (is_directive e) _ _ (actions_find es in_loop labels at e)
  where
    by_kind : (directive : Bool) (m : Resolving ActionForms) (n : Rule (Unit {0})) → Finds nothing_of m n
        → Finds nothing_of (elim directive [ true ↦ pure no_actions | false ↦ m ]) (elim directive [ true ↦ check_pure tt | false ↦ n ])
    by_kind true m n p = pure_finds nothing_of _
    by_kind false m n p = p

embedded_finds : (es : List EmbData) (is_body in_loop : Bool) (labels : Named (Unit {0})) (at : Place) (n : ℕ) (e : EmbData)
    → Finds nothing_of (embedded_rule es labels at n e) (checked_embedded.embedded_rule es is_body in_loop labels at n e)
embedded_finds es is_body in_loop labels at n e =
    quiet_first _ _ _ (demand_quiet _ _ _) (chain_finds _ _ _ _ (references_find at (references e)) (λ rs.
    chain_finds _ _ _ _ (checks_find _) (λ _. and_silently _ _ _ (handlers_find es in_loop labels at e) (λ a. arrange_silent _))))

embedded_at_finds : (a : Around) (at : Place) (n : ℕ) (e : Option EmbData) → Finds nothing_of (embedded_at (around_of a) at n e) (checked.embedded_at a at n e)
embedded_at_finds a at n None = pure_finds nothing_of _
embedded_at_finds a at n (Some e) = embedded_finds a.embs a.is_body a.in_loop a.labels at n e

mutual
  pub statement_finds : (a : Around) (s : StmtData) → Finds nothing_of (statement (around_of a) s) (checked.statement a s)
  statement_finds a (stmt line kind) =
      chain_finds _ _ _ _ (checks_find _) (λ at. then_pure nothing_of nothing_of _ _ _ (kind_finds a at kind) (λ x. refl))

  kind_finds : (a : Around) (at : Place) (kind : StmtKindData) → Finds nothing_of (statement_kind (around_of a) at kind) (checked.statement_kind a at kind)
  kind_finds a at empty_stmt = pure_finds nothing_of _
  kind_finds a at (expr_stmt e) = then_pure nothing_of nothing_of _ _ _ (alone_finds at e) (λ x. refl)
  kind_finds a at (block_stmt ss) =
      then_pure nothing_of nothing_of _ _ _ (block_finds nothing_of _ _ _ (scoped_finds _ _ (statements_find (as_item a) ss))) (λ x. refl)
  kind_finds a at (if_stmt e s other) =
      scoped_finds _ _ (chain_finds _ _ _ _ (condition_finds at e) (λ x.
      chain_finds _ _ _ _ (scoped_finds _ _ (statement_finds (as_body a) s)) (λ y.
      then_pure nothing_of nothing_of _ _ _ (otherwise_finds (as_body a) other) (λ z. refl))))
  kind_finds a at (while_stmt e s) =
      scoped_finds _ _ (chain_finds _ _ _ _ (condition_finds at e) (λ x.
      then_pure nothing_of nothing_of _ _ _ (scoped_finds _ _ (statement_finds (looping a) s)) (λ y. refl)))
  kind_finds a at (do_stmt s e) =
      scoped_finds _ _ (chain_finds _ _ _ _ (scoped_finds _ _ (statement_finds (looping a) s)) (λ y.
      then_pure nothing_of nothing_of _ _ _ (condition_finds at e) (λ x. refl)))
  kind_finds a at (for_stmt x y z s) =
      scoped_finds _ _ (chain_finds _ _ _ _ (optional_finds at x) (λ first.
      chain_finds _ _ _ _ (optional_condition_finds at y) (λ test.
      chain_finds _ _ _ _ (optional_finds at z) (λ behind.
      then_pure nothing_of nothing_of _ _ _ (scoped_finds _ _ (statement_finds (looping a) s)) (λ body. refl)))))
  kind_finds a at break_stmt = quiet_last _ _ (pure_silent _) (demand_quiet _ _ _)
  kind_finds a at continue_stmt = quiet_last _ _ (pure_silent _) (demand_quiet _ _ _)
  kind_finds a at (return_stmt e) = return_finds at a.result e
  kind_finds a at (goto_stmt l) = quiet_last _ _ (pure_silent _) (demand_quiet _ _ _)
  kind_finds a at (label_stmt l s) =
      chain_finds _ _ _ _ (checks_find _) (λ _. then_pure nothing_of nothing_of _ _ _ (statement_finds (as_body a) s) (λ x. refl))
  kind_finds a at (decl_stmt d) = then_pure nothing_of nothing_of _ _ _ (declaration_finds false d) (λ ss. refl)
  kind_finds a at (emb_stmt n) = then_pure nothing_of nothing_of _ _ _ (embedded_at_finds a at n (slice_get a.embs n)) (λ x. refl)
  kind_finds a at (mark_stmt opens) = pure_finds nothing_of _

  pub statements_find : (a : Around) (ss : StmtList) → Finds nothing_of (statements (around_of a) ss) (checked.statements a ss)
  statements_find a no_stmts = pure_finds nothing_of _
  statements_find a (stmt_list s ss) =
      chain_finds _ _ _ _ (statement_finds a s) (λ x. then_pure nothing_of nothing_of _ _ _ (statements_find a ss) (λ xs. refl))

  otherwise_finds : (a : Around) (other : StmtOption) → Finds nothing_of (otherwise (around_of a) other) (checked.otherwise a other)
  otherwise_finds a no_stmt = pure_finds nothing_of _
  otherwise_finds a (some_stmt s) = scoped_finds _ _ (statement_finds a s)

-- ---- functions and programs

param_finds : (at : Place) (defined : Bool) (p : ParamData) → Finds itself (param at defined p) (programs.param at defined p)
param_finds at defined p =
    chain_finds _ _ _ _ (base_finds at p.base) (λ b. chain_finds _ _ _ _ (lengths_find at p.dims) (λ sizes.
    quiet_first _ _ _ (elements_quiet at b p.stars sizes) (chain_finds _ _ _ _ (checks_find _) (λ t. chain_finds _ _ _ _ (ask_finds _) (λ k.
    chain_finds _ _ _ _ (checks_find _) (λ _. chain_finds _ _ _ _ (checks_find _) (λ _.
    stored_first _ _ _ (λ site. arrange_first _ _ _ (ask_first _ _ _ (λ size. arrange_first _ _ _ (pure_finds itself t)))))))))))

params_find : (at : Place) (defined : Bool) (ps : List ParamData) → Finds itself (params at defined ps) (programs.params at defined ps)
params_find at defined [] = pure_finds itself []
params_find at defined (p ∷ ps) =
    chain_finds _ _ _ _ (param_finds at defined p) (λ t. chain_finds _ _ _ _ (params_find at defined ps) (λ ts. pure_finds itself (t ∷ ts)))

body_finds : (es : List EmbData) (r : Option TyData) (body : Option StmtList) → Finds nothing_of (body_rule es r body) (programs.body_rule es r body)
body_finds es r None = pure_finds nothing_of None
body_finds es r (Some ss) =
    chain_finds _ _ _ _ (checks_find _) (λ _.
    then_pure nothing_of nothing_of _ _ _ (block_finds nothing_of _ _ _ (statements_find (record { embs = es; is_body = false; in_loop = false; labels = labels_in_all ss []; result = r }) ss)) (λ b. refl))

function_silently : (name : Text) (ps : List (Option TyData)) (b : Body) → Silent (function_made name ps b)
function_silently name ps None = pure_silent _
function_silently name ps (Some b) = arrange_silent _

free_name_quiet : (at : Place) (name : Text) → Quiet (free_name at name)
unfolding free_name
free_name_quiet at name = demand_quiet _ _ _

-- steps that are grouped in another way
regrouped : {A B C : Type 0} {seen : B → C} (m : Resolving B) (n1 : Rule A) (n2 n3 n4 : A → Rule (Unit {0})) (n5 : Rule C)
    → Finds seen m (check_chain (check_chain n1 (λ a. check_chain (n2 a) (λ _. check_chain (n3 a) (λ _. n4 a)))) (λ _. n5))
    → Finds seen m (check_chain n1 (λ a. check_chain (n2 a) (λ _. check_chain (n3 a) (λ _. check_chain (n4 a) (λ _. n5)))))
unfolding check_chain
regrouped m n1 n2 n3 n4 n5 p = record { answer = p.answer; world = p.world }

function_finds : (es : List EmbData) (f : FuncData) → Finds nothing_of (function_rule es f) (programs.function_rule es f)
function_finds es f =
    chain_finds _ _ _ _ (checks_find _) (λ at. chain_finds _ _ _ _ (base_finds at f.base) (λ b.
    chain_finds _ _ _ _ (checks_find _) (λ r. chain_finds _ _ _ _ (ask_finds _) (λ k. chain_finds _ _ _ _ (ask_finds _) (λ before.
    chain_finds _ _ _ _ (checks_find _) (λ _. quiet_first _ _ _ (free_name_quiet at f.name)
    (chain_finds _ _ _ _ (checks_find _) (λ _. arrange_first _ _ _ (chain_finds _ _ _ _ (checks_find _) (λ _.
    regrouped _ _ _ _ _ _ (chain_finds _ _ _ _ (block_finds nothing_of _ _ _
    (chain_finds _ _ _ _ (params_find at (is_some f.body) f.params) (λ ps. chain_finds _ _ _ _ (checks_find _) (λ _.
    quiet_first _ _ _ (demand_quiet _ _ _) (and_silently _ _ _ (body_finds es r f.body) (λ b. function_silently f.name ps b))))))
    (λ x. checks_find _))))))))))))

directive_finds : (es : List EmbData) (n : ℕ) (e : Option EmbData) → Finds nothing_of (directive_rule es n e) (programs.directive_rule es n e)
directive_finds es n None = pure_finds nothing_of _
directive_finds es n (Some e) = chain_finds _ _ _ _ (checks_find _) (λ at. embedded_finds es false false [] at n e)

top_finds : (es : List EmbData) (t : TopData) → Finds nothing_of (top_rule es t) (programs.top_rule es t)
top_finds es (include_top bytes) = pure_finds nothing_of _
top_finds es (directive_top n) = directive_finds es n (slice_get es n)
top_finds es (decl_top d) = then_pure nothing_of nothing_of _ _ _ (declaration_finds true d) (λ x. refl)
top_finds es (func_top f) = function_finds es f
top_finds es (mark_top opens line) = pure_finds nothing_of _

pub tops_find : (es : List EmbData) (ts : List TopData) → Finds nothing_of (tops_rule es ts) (programs.tops_rule es ts)
tops_find es [] = pure_finds nothing_of _
tops_find es (t ∷ ts) = chain_finds _ _ _ _ (top_finds es t) (λ _. tops_find es ts)
