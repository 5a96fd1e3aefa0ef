-- The test of each condition is resolved to that of its action.
use Rattle.std.proofs.Common.{◌≡◌, ◌∙◌, ℕ, ◌+◌, Bool, true, false, List, [], ◌∷◌, ◌++◌, map, refl, sym, ap, subst, Option, Some, None}
use Rattle.std.specs.Prelude.{pos, codes, is_some}
use Rattle.ec_base.specs.declared.fault.FaultKind.{FaultKind}
use Rattle.ec_base.specs.declared.fault.FaultKind.TheVariants.{F18, F30}
use Rattle.ec_base.specs.declared.line.Line.{Line}
use Rattle.ec_ctypes.specs.declared.embedded.emb.Cond.{Cond}
use Rattle.ec_ctypes.specs.trees.Embedded.{ActionData, continue_action, goto_action, print_action, stop_action, break_action, next_action, call_action}
use Rattle.ec_ctypes.specs.trees.Exprs.{ExprData, call, ExprList, no_exprs, exprs, integer, character, string, identifier, index, member, arrow}
use Rattle.ec_ctypes.specs.trees.Stmts.{StmtData, stmt, StmtKindData, expr_stmt, if_stmt, break_stmt, continue_stmt, goto_stmt, StmtList, stmts as stmt_list, no_stmt}
use Rattle.ec_ctypes.specs.trees.Types.{void}
use Rattle.ec_language.specs.First.{Violation}
use Rattle.ec_language.specs.Letters.{Text}
use Rattle.ec_typing_defs.specs.Embedded as checked
use Rattle.ec_typing_defs.specs.Expressions as checked_parts
use Rattle.ec_typing_defs.specs.Known.{all_expressions, arguments_of, is_reserved, known_function}
use Rattle.ec_typing_defs.specs.Library.{library_call}
use Rattle.ec_typing_defs.specs.Operands as operands
use Rattle.ec_typing_defs.specs.Operands.{OperandData, computed, integer_operand, valued}
use Rattle.ec_typing_defs.specs.Statements as checked_statements
use Rattle.ec_typing_defs.specs.Statements.{Around, as_body}
use Rattle.ec_typing_defs.specs.Tables.{Named, find}
use Rattle.ec_typing_defs.specs.Types.{int_type}
use Rattle.ec_typing_defs.specs.Worlds as worlds
use Rattle.ec_typing_defs.specs.Worlds.{Place, World, Rule, out, entered, left, look_up, place}
use Rattle.ec_expansion_defs.specs.Declarations.{written_expr, written_exprs}
use Rattle.ec_expansion_defs.specs.Handlers.{condition, called, int_constant, test_for}
use Rattle.ec_expansion_defs.specs.Statements.{before_stmts}
use Rattle.ec_meaning_defs.specs.functions.Functions.{exit, sqlprint}
use Rattle.ec_memory_defs.specs.Memory.{number}
use Rattle.ec_meaning_defs.specs.resolved.Resolved.{Exp, constant, known, no_exps, exps, Stm, on_line, nothing, evaluate, choose, leave, next, goto, Stms, stms}
use Rattle.ec_resolving_defs.specs.Agreement.{around_of, operand_of}
use Rattle.ec_resolving_defs.specs.Embedded.{action_rule}
use Rattle.ec_resolving_defs.specs.Expressions.{expr, args}
use Rattle.ec_resolving_defs.specs.Operands.{Found, found as found_of, operands_of, place_in, known_call, call_exp, called as called_rule, without_use, done_alone}
use Rattle.ec_resolving_defs.specs.Statements as resolved
use Rattle.ec_resolving_defs.specs.Storage.{Storage, ActionForm, goes_on, jumps, prints, stops, leaves, continues, calls_function, Resolving, Reached, reached, chain, pure, checks, stored}
use Rattle.ec_sim_statement_laws.specs.statement.Blocks.{calls_library}
use Rattle.ec_sim_statement_laws.specs.statement.Tests.{condition_exp, action_stm, test_stm, test_before}
use Rattle.ec_sim_statement_laws.specs.expression.Alike.{SameStorage, AddsNone, FindAlike, IsAlike}
use Rattle.ec_sim_statement_laws.specs.expression.Laws.{ExpressionsAreAlike}
use Rattle.ec_sim_statement_laws.specs.expression.Lengths.{HaveLengths, HaveLengthsIn}
use Rattle.ec_sim_statement_laws.specs.expression.Silent.{FoundCallsNone}
use Rattle.ec_sim_statement_laws.specs.expression.Worlds.{AreAlike}
use Rattle.ec_sim_world_laws.specs.test.Area.{KnowsArea}
use Rattle.ec_sim_world_laws.specs.test.Plain.{IsPlain, ArePlain, IsPlainOption}
use Rattle.ec_sim_world_laws.proofs.test_lemmas.Alike.{alike_placed, alike_inside, alike_outside, reserved_is_free, none_itself}
use Rattle.ec_sim_world_laws.proofs.test_lemmas.Conditions.{TellsArea, area_told, condition_checked, condition_found}
use Rattle.ec_sim_world_laws.proofs.test_lemmas.Finding.{Finds, call_alone_finds}
use Rattle.ec_sim_world_laws.proofs.test_lemmas.Layouts.{SameLayout, alike_layout, done_same, done_none}
use Rattle.ec_sim_world_laws.proofs.test_lemmas.Looking.{Looks, call_alone_looks}
use Rattle.ec_sim_world_laws.proofs.test_lemmas.Steps.{then_is, then_finds, checks_is, ask_is, check_ask_is, scoped_is, scoped_finds}

-- ---- plain expressions are written as themselves

plain_lengths : (e : ExprData) → IsPlain e → HaveLengths e
plain_lengths (integer n t) p = tt
plain_lengths (character c) p = tt
plain_lengths (string s) p = tt
plain_lengths (identifier x) p = tt
plain_lengths (index a b) p = (plain_lengths a p.0, plain_lengths b p.1)
plain_lengths (member e m) p = plain_lengths e p
plain_lengths (arrow e m) p = plain_lengths e p
plain_lengths _ p = absurd p

plain_lengths_in : (es : ExprList) → ArePlain es → HaveLengthsIn es
plain_lengths_in no_exprs p = tt
plain_lengths_in (exprs e es) p = (plain_lengths e p.0, plain_lengths_in es p.1)

plain_written : (n : ℕ) (e : ExprData) → IsPlain e → written_expr n e ≡ e
plain_written n (integer v t) p = refl
plain_written n (character c) p = refl
plain_written n (string s) p = refl
plain_written n (identifier x) p = refl
plain_written n (index a b) p = λ i. index (plain_written n a p.0 i) (plain_written n b p.1 i)
plain_written n (member e m) p = λ i. member (plain_written n e p i) m
plain_written n (arrow e m) p = λ i. arrow (plain_written n e p i) m
plain_written n _ p = absurd p

plain_written_in : (n : ℕ) (es : ExprList) → ArePlain es → written_exprs n es ≡ es
plain_written_in n no_exprs p = refl
plain_written_in n (exprs e es) p = λ i. exprs (plain_written n e p.0 i) (plain_written_in n es p.1 i)

-- ---- the statement of an action

pub check_done : {w : World} → worlds.pure (tt {0}) w ≡ out tt [] w
unfolding worlds.pure
check_done = refl

pub done_behind : {A : Type 0} {b : A} {s : Storage} {w : World} → pure b s w ≡ reached b s w
unfolding pure
done_behind = refl

-- What the checks and the walk find of a statement of what is written, from here: this form, with no fault, and behind it what is alike to what is known and stored in the source
pub record IsFound (a : Around) (there : Place) (kind : StmtKindData) (x : Stm) (w : World) (s t : Storage) (z : World) : Type 0 where
  pub storage : Storage
  pub world : World
  pub checks : checked_statements.statement_kind a there kind z ≡ out tt [] world
  pub finds : resolved.statement_kind (around_of a) there kind t z ≡ reached x storage world
  pub worlds : AreAlike w world
  pub storages : SameStorage s storage
  pub adds_none : AddsNone t storage

-- nothing more is known or stored behind it
module _ (a : Around) (there : Place) (w : World) (s t : Storage) (z : World) (same : SameStorage s t) (alike : AreAlike w z) where
  found_here : (kind : StmtKindData) (x : Stm) → checked_statements.statement_kind a there kind z ≡ out tt [] z → resolved.statement_kind (around_of a) there kind t z ≡ reached x t z → IsFound a there kind x w s t z
  found_here kind x p q = record {
    storage = t;
    world = z;
    checks = p;
    finds = q;
    worlds = alike;
    storages = same;
    adds_none = none_itself t;
  }

  allowed : (b : Bool) → b ≡ true → worlds.demand there F18 b z ≡ out tt [] z
  unfolding worlds.demand worlds.pure
  allowed true e = refl
  allowed false e = absurd (cc)

  done : {A : Type 0} (b : A) → pure b t z ≡ reached b t z
  unfolding pure
  done b = refl

  jump_found : (l : Text) → is_some (find l a.labels) ≡ true → IsFound a there (goto_stmt l) (goto (place_in l a.labels)) w s t z
  jump_found l e = found_here _ _ (allowed _ e) (done _)

  leave_found : a.in_loop ≡ true → IsFound a there break_stmt leave w s t z
  leave_found e = found_here _ _ (allowed _ e) (done _)

  next_found : a.in_loop ≡ true → IsFound a there continue_stmt next w s t z
  next_found e = found_here _ _ (allowed _ e) (done _)

  -- a call of a known function without a result, whose arguments change nothing
  module _ (f : Text) (es : ExprList) (fs : List Found) (x : Exp)
      (reserved : is_reserved f ≡ true) (forms : arguments_of true f ≡ all_expressions) (library : library_call true f ≡ None)
      (args_checked : checked_parts.args there all_expressions es z ≡ out (operands_of fs) [] z)
      (args_found : args there all_expressions es t z ≡ reached fs t z)
      (fits : operands.known_rule there f es (operands_of fs) (known_function f) z ≡ out (computed (Some void)) [] z)
      (form : known_call f es fs (known_function f) ≡ x) (unused : without_use x ≡ x) where
    forms_there : arguments_of z.written f ≡ all_expressions
    forms_there = ap (λ b. arguments_of b f) alike.is_written ∙ forms

    library_there : library_call z.written f ≡ None
    library_there = ap (λ b. library_call b f) alike.is_written ∙ library

    free : look_up f z ≡ None
    free = reserved_is_free alike f reserved

    rule_checked : operands.call_rule there f es (operands_of fs) z ≡ out (computed (Some void)) [] z
    unfolding operands.call_rule operands.call_by
    rule_checked = then_is _ _ (check_ask_is _ _ free) (then_is _ _ (check_ask_is _ _ library_there) fits)

    call_checked : checked_parts.expr there (call f es) z ≡ out (computed (Some void)) [] z
    call_checked = then_is _ _ (check_ask_is _ _ forms_there) (then_is _ _ args_checked rule_checked)

    defined_are : stored (λ s. s.defined) t z ≡ reached t.defined t z
    unfolding stored
    defined_are = refl

    called_found : called_rule f es fs t z ≡ reached x t z
    called_found = then_finds _ _ (ask_is _ _ _ library_there) (then_finds _ _ defined_are (ask_is _ _ _ (ap (λ e. call_exp t.defined f es fs e) free ∙ form)))

    call_found : expr there (call f es) t z ≡ reached (found_of (computed (Some void)) x false) t z
    call_found = then_finds _ _ (ask_is _ _ _ forms_there) (then_finds _ _ args_found (then_finds _ _ called_found (then_finds _ _ (checks_is _ _ rule_checked) (done _))))

    known_found : IsFound a there (expr_stmt (call f es)) (evaluate x) w s t z
    known_found = found_here _ _ (then_is _ _ call_checked check_done) (then_finds _ _ (then_finds _ _ call_found (ask_is _ _ _ unused)) (done _))

  -- `sqlprint()`
  no_args_checked : checked_parts.args there all_expressions no_exprs z ≡ out [] [] z
  unfolding worlds.pure
  no_args_checked = refl

  print_fits : operands.known_rule there (codes "sqlprint") no_exprs [] (known_function (codes "sqlprint")) z ≡ out (computed (Some void)) [] z
  unfolding worlds.chain worlds.demand worlds.pure
  print_fits = refl

  print_found : IsFound a there (called "sqlprint" no_exprs) (evaluate (known sqlprint no_exps)) w s t z
  print_found = known_found (codes "sqlprint") no_exprs [] (known sqlprint no_exps) refl refl refl no_args_checked (done _) print_fits refl refl

  -- `exit(1)`
  abbrev status : Found
  status = found_of (valued (integer_operand int_type (pos 1)) int_type) (constant (number (pos 1))) false

  abbrev status_args : ExprList
  status_args = exprs (int_constant 1) no_exprs

  status_checked : checked_parts.args there all_expressions status_args z ≡ out (operands_of (status ∷ [])) [] z
  unfolding worlds.chain worlds.ask worlds.pure operands.value_rule
  status_checked = refl

  status_found : args there all_expressions status_args t z ≡ reached (status ∷ []) t z
  unfolding chain pure checks worlds.chain worlds.ask worlds.pure operands.value_rule
  status_found = refl

  stop_fits : operands.known_rule there (codes "exit") status_args (operands_of (status ∷ [])) (known_function (codes "exit")) z ≡ out (computed (Some void)) [] z
  unfolding worlds.chain worlds.demand worlds.pure
  stop_fits = refl

  stop_found : IsFound a there (called "exit" status_args) (evaluate (known exit (exps (constant (number (pos 1))) no_exps))) w s t z
  stop_found = known_found (codes "exit") status_args (status ∷ []) (known exit (exps (constant (number (pos 1))) no_exps)) refl refl refl status_checked status_found stop_fits refl refl

-- ---- a call of a function

found_twice : {A : Type 0} {m : Resolving A} → Finds m → (s : Storage) (w : World) → m s (entered (entered w)) ≡ reached (m s w).answer (m s w).storage (entered (entered w))
found_twice h s w = h.inside s (entered w) ∙ (λ i. reached (h.inside s w i).answer (h.inside s w i).storage (entered (entered w)))

looked_twice : {A : Type 0} {m : Rule A} → Looks m → (w : World) → (m (entered (entered w))).found ≡ (m w).found
looked_twice h w = (λ i. (h.inside (entered w) i).found) ∙ (λ i. (h.inside w i).found)

-- in the scopes of a test
module _ (law : ExpressionsAreAlike) (a : Around) (at there : Place) (f : Text) (es : ExprList) (plain : ArePlain es)
    (s t : Storage) (w z : World) (same : SameStorage s t) (alike : AreAlike (entered (entered w)) z) (sound : (checked_parts.expr at (call f es) w).found ≡ []) where
  abbrev source : Reached Found
  source = expr at (call f es) s w

  abbrev inner : World
  inner = entered (entered w)

  written : FindAlike FoundCallsNone operand_of s t (checked_parts.expr at (call f es) inner) (checked_parts.expr there (call f es) z) (reached source.answer source.storage inner) (expr there (call f es) t z)
  written = subst (λ r. FindAlike FoundCallsNone operand_of s t (checked_parts.expr at (call f es) inner) (checked_parts.expr there (call f es) z) r (expr there (call f es) t z))
      (found_twice (call_alone_finds at f es plain) s w) (as_written.finds s t inner z same alike (looked_twice (call_alone_looks at f es plain) w ∙ sound))
    where
      as_written : IsAlike FoundCallsNone operand_of (checked_parts.expr at (call f es)) (checked_parts.expr there (call f es)) (expr at (call f es)) (expr there (call f es))
      as_written = subst (λ e. IsAlike FoundCallsNone operand_of (checked_parts.expr at (call f es)) (checked_parts.expr there e) (expr at (call f es)) (expr there e))
          (λ i. call f (plain_written_in 0 es plain i)) (law at there 0 (call f es) (plain_lengths_in es plain))

  abbrev there_found : Reached Found
  there_found = expr there (call f es) t z

  layout : SameLayout w there_found.world
  layout = let l = alike_layout written.worlds in record { shapes = l.shapes; members = l.members }

  done_there : done_alone there_found.world (call f es) there_found.answer ≡ done_alone w (call f es) source.answer
  done_there = (λ i. done_alone there_found.world (call f es) (written.answer i)) ∙ done_same layout (call f es) source.answer

  expr_checked : checked_parts.expr there (call f es) z ≡ out (checked_parts.expr there (call f es) z).answer [] there_found.world
  expr_checked = λ i. out (checked_parts.expr there (call f es) z).answer (written.without_fault i) (sym written.checked_world_there i)

  function_checked : checked_statements.statement_kind a there (expr_stmt (call f es)) z ≡ out tt [] there_found.world
  function_checked = then_is _ _ expr_checked check_done

  function_stands : resolved.statement_kind (around_of a) there (expr_stmt (call f es)) t z ≡ reached (evaluate (done_alone w (call f es) source.answer)) there_found.storage there_found.world
  function_stands = then_finds _ _ (then_finds _ _ refl (ask_is _ _ _ done_there)) done_behind

  function_found : IsFound a there (expr_stmt (call f es)) (evaluate (done_alone w (call f es) source.answer)) inner source.storage t z
  function_found = record {
    storage = there_found.storage;
    world = there_found.world;
    checks = function_checked;
    finds = function_stands;
    worlds = written.worlds;
    storages = written.storages;
    adds_none = written.adds_none_there;
  }

-- ---- the test of a condition

abbrev placed : World → World
placed w = record w { places = w.places + 1 }

-- in the scopes of an `if` and of its body
abbrev inside : World → World
inside v = entered (entered (placed v))

abbrev place_inside : Line → World → Place
place_inside line v = record { number = (inside v).places; line = line }

module _ (a : Around) (line : Line) (c : Cond) (kind : StmtKindData) (x : Stm) (s t : Storage) (w v : World)
    (know : KnowsArea w) (alike : AreAlike w v)
    (body : IsFound (as_body a) (place_inside line v) kind x (entered (entered w)) s t (placed (inside v))) where
  abbrev test : StmtData
  test = stmt line (if_stmt (condition c) (stmt line kind) no_stmt)

  place_is : (z : World) → place line z ≡ out (record { number = z.places; line = line }) [] (placed z)
  unfolding place
  place_is z = refl

  area : TellsArea (entered (placed v))
  area = area_told (record { structs = know.structs }) (alike_inside (alike_placed (v.places + 1) alike))

  body_checked : checked_statements.statement (as_body a) (stmt line kind) (inside v) ≡ out tt [] body.world
  body_checked = then_is _ _ (place_is _) body.checks

  test_checked : checked_statements.statement a test v ≡ out tt [] (left (left body.world))
  test_checked = then_is _ _ (place_is _) (scoped_is _ (then_is _ _ (condition_checked _ _ area c) (then_is _ _ (scoped_is _ body_checked) check_done)))

  body_found : resolved.statement (around_of a) (stmt line kind) t (inside v) ≡ reached (on_line line.0 x) body.storage body.world
  body_found = then_finds _ _ (checks_is _ _ (place_is _)) (then_finds _ _ body.finds done_behind)

  test_found : resolved.statement (around_of a) test t v ≡ reached (on_line line.0 (choose (condition_exp c) (on_line line.0 x) nothing)) body.storage (left (left body.world))
  test_found = then_finds _ _ (checks_is _ _ (place_is _)) (then_finds _ _
      (scoped_finds _ (then_finds _ _ (condition_found _ _ _ area c) (then_finds _ _ (scoped_finds _ body_found) (then_finds _ _ done_behind done_behind)))) done_behind)

demand_world : (at : Place) (kind : FaultKind) (b : Bool) (w : World) → (worlds.demand at kind b w).world ≡ w
unfolding worlds.demand worlds.note worlds.pure
demand_world at kind true w = refl
demand_world at kind false w = refl

-- an action leaves what is known as it is
pub action_world : (in_loop : Bool) (labels : Named (Unit {0})) (at : Place) (action : Option ActionData) → IsPlainOption action → (w : World) → (checked.action_rule in_loop labels at action w).world ≡ w
unfolding worlds.instead worlds.chain worlds.pure
action_world in_loop labels at None p w = refl
action_world in_loop labels at (Some continue_action) p w = refl
action_world in_loop labels at (Some (goto_action l)) p w = demand_world _ _ _ w
action_world in_loop labels at (Some print_action) p w = refl
action_world in_loop labels at (Some stop_action) p w = refl
action_world in_loop labels at (Some break_action) p w = demand_world _ _ _ w
action_world in_loop labels at (Some next_action) p w = demand_world _ _ _ w
action_world in_loop labels at (Some (call_action f es)) p w = (call_alone_looks at f es p).world w

-- What is found of an action in the source, from here, and of its test before other statements in what is written
pub record IsTested (a : Around) (at : Place) (line : Line) (c : Cond) (action : Option ActionData) (s t : Storage) (w v : World) : Type 0 where
  pub form : ActionForm
  pub behind : Storage
  pub source : action_rule a.labels at action s w ≡ reached form behind w
  pub silent : calls_library form ≡ false
  pub adds_none : AddsNone s behind
  pub storage : Storage
  pub world : World
  pub checks : (ss : StmtList) (y : World) → checked_statements.statements a ss world ≡ out tt [] y → checked_statements.statements a (before_stmts (test_for line c action) ss) v ≡ out tt [] y
  pub finds : (ss : StmtList) (xs : Stms) (u : Storage) (y : World) → resolved.statements (around_of a) ss storage world ≡ reached xs u y
      → resolved.statements (around_of a) (before_stmts (test_for line c action) ss) t v ≡ reached (test_before line.0 c form xs) u y
  pub worlds : AreAlike w world
  pub storages : SameStorage behind storage
  pub adds_none_there : AddsNone t storage

module _ (a : Around) (at : Place) (line : Line) (c : Cond) (s t : Storage) (w v : World)
    (same : SameStorage s t) (alike : AreAlike w v) (know : KnowsArea w) where
  inside_alike : AreAlike (entered (entered w)) (placed (inside v))
  inside_alike = alike_placed ((inside v).places + 1) (alike_inside (alike_inside (alike_placed (v.places + 1) alike)))

  nothing_tested : (action : Option ActionData) → ((ss : StmtList) → before_stmts (test_for line c action) ss ≡ ss) → action_rule a.labels at action s w ≡ reached goes_on s w → IsTested a at line c action s t w v
  nothing_tested action none source = record {
    form = goes_on;
    behind = s;
    source = source;
    silent = refl;
    adds_none = none_itself s;
    storage = t;
    world = v;
    checks = λ ss y p. (λ i. checked_statements.statements a (none ss i) v) ∙ p;
    finds = λ ss xs u y p. (λ i. resolved.statements (around_of a) (none ss i) t v) ∙ p;
    worlds = alike;
    storages = same;
    adds_none_there = none_itself t;
  }

  tested : (action : Option ActionData) (kind : StmtKindData) (form : ActionForm) (behind : Storage)
      → ((ss : StmtList) → before_stmts (test_for line c action) ss ≡ stmt_list (stmt line (if_stmt (condition c) (stmt line kind) no_stmt)) ss)
      → ((xs : Stms) → stms (test_stm line.0 c form) xs ≡ test_before line.0 c form xs)
      → action_rule a.labels at action s w ≡ reached form behind w → calls_library form ≡ false → AddsNone s behind
      → IsFound (as_body a) (place_inside line v) kind (action_stm form) (entered (entered w)) behind t (placed (inside v))
      → IsTested a at line c action s t w v
  tested action kind form behind one shape source silent adds body = record {
    form = form;
    behind = behind;
    source = source;
    silent = silent;
    adds_none = adds;
    storage = body.storage;
    world = left (left body.world);
    checks = λ ss y p. (λ i. checked_statements.statements a (one ss i) v) ∙ then_is _ _ (test_checked a line c kind (action_stm form) behind t w v know alike body) p;
    finds = λ ss xs u y p.
        (λ i. resolved.statements (around_of a) (one ss i) t v)
        ∙ then_finds _ _ (test_found a line c kind (action_stm form) behind t w v know alike body) (then_finds _ _ p done_behind)
        ∙ (λ i. reached (shape xs i) u y);
    worlds = alike_outside w (alike_outside (entered w) body.worlds);
    storages = body.storages;
    adds_none_there = body.adds_none;
  }

  no_violation : (x : Violation) → x ∷ [] ≡ [] → ⊥
  no_violation x e = cc

  held : (kind : FaultKind) (b : Bool) → (worlds.demand at kind b w).found ≡ [] → b ≡ true
  unfolding worlds.demand worlds.note worlds.pure
  held kind true e = refl
  held kind false e = absurd (no_violation _ e)

  none_mapped : (g : Violation → Violation) (vs : List Violation) → map g (vs ++ []) ≡ [] → vs ≡ []
  none_mapped g [] e = refl
  none_mapped g (x ∷ vs) e = absurd (cc)

  instead_held : (kind : FaultKind) (m : Rule OperandData) → (worlds.instead at kind (worlds.chain m (λ o. worlds.pure tt)) w).found ≡ [] → (m w).found ≡ []
  unfolding worlds.instead worlds.chain worlds.pure
  instead_held kind m e = none_mapped _ _ e

  pub action_tested : ExpressionsAreAlike → (action : Option ActionData) → IsPlainOption action → (checked.action_rule a.in_loop a.labels at action w).found ≡ [] → IsTested a at line c action s t w v
  action_tested law None p e = nothing_tested _ (λ ss. refl) done_behind
  action_tested law (Some continue_action) p e = nothing_tested _ (λ ss. refl) done_behind
  action_tested law (Some (goto_action l)) p e =
      tested _ _ (jumps (place_in l a.labels)) s (λ ss. refl) (λ xs. refl) done_behind refl (none_itself s) (jump_found _ _ _ _ _ _ same inside_alike l (held F30 _ e))
  action_tested law (Some print_action) p e =
      tested _ _ prints s (λ ss. refl) (λ xs. refl) done_behind refl (none_itself s) (print_found _ _ _ _ _ _ same inside_alike)
  action_tested law (Some stop_action) p e =
      tested _ _ stops s (λ ss. refl) (λ xs. refl) done_behind refl (none_itself s) (stop_found _ _ _ _ _ _ same inside_alike)
  action_tested law (Some break_action) p e =
      tested _ _ leaves s (λ ss. refl) (λ xs. refl) done_behind refl (none_itself s) (leave_found _ _ _ _ _ _ same inside_alike (held F30 _ e))
  action_tested law (Some next_action) p e =
      tested _ _ continues s (λ ss. refl) (λ xs. refl) done_behind refl (none_itself s) (next_found _ _ _ _ _ _ same inside_alike (held F30 _ e))
  action_tested law (Some (call_action f es)) p e =
      tested _ _ (calls_function (done_alone w (call f es) (expr at (call f es) s w).answer)) (expr at (call f es) s w).storage (λ ss. refl) (λ xs. refl)
      (then_finds _ _ (then_finds _ _ (λ i. reached (expr at (call f es) s w).answer (expr at (call f es) s w).storage ((call_alone_finds at f es p).world s w i)) (ask_is _ _ _ refl)) done_behind)
      (done_none w (call f es) (expr at (call f es) s w).answer (there.silent)) there.adds_none
      (function_found law (as_body a) at (place_inside line v) f es p s t w (placed (inside v)) same inside_alike sound)
    where
      sound : (checked_parts.expr at (call f es) w).found ≡ []
      sound = instead_held F30 (checked_parts.expr at (call f es)) e

      there : FindAlike FoundCallsNone operand_of s t (checked_parts.expr at (call f es) (entered (entered w))) (checked_parts.expr (place_inside line v) (call f es) (placed (inside v)))
          (reached (expr at (call f es) s w).answer (expr at (call f es) s w).storage (entered (entered w))) (expr (place_inside line v) (call f es) t (placed (inside v)))
      there = written law (as_body a) at (place_inside line v) f es p s t w (placed (inside v)) same inside_alike sound
