-- A run only adds to what was printed and said, from wherever it stands.
use Rattle.std.proofs.Common.{◌≡◌, ◌∙◌, refl, sym, ap, subst, ℕ, List, [], ◌∷◌, ◌++◌, append_assoc, append-nil, map, Option, Some, None, Bool, true, false, Result, Ok, Err}
use Rattle.std.specs.Option.{option_map}
use Rattle.std.specs.Prelude.{ℤ}
use Rattle.ec_base.specs.declared.line.Line.{Line}
use Rattle.ec_base.specs.declared.stop.Trap.{Trap}
use Rattle.ec_code.specs.declared.program.Function.{Function}
use Rattle.ec_code.specs.declared.step.Binary.{Binary}
use Rattle.ec_code.specs.declared.step.Binary.TheVariants as binary
use Rattle.ec_code.specs.Marks.{mark_view}
use Rattle.ec_code.specs.Trees.{Step, update_view, walked}
use Rattle.ec_code.specs.Views.{expression_view, expressions_view, full_step_view, function_view, statement_view, statements_view}
use Rattle.ec_meaning_defs.specs.evaluation.Agree.{Always, Grows, Related, WhenAnswered, state_of}
use Rattle.ec_meaning_defs.specs.evaluation.Evaluate.{Context, World, Step as Knowing, calls, collect, eval, look_for, turn_of, updated}
use Rattle.ec_meaning_defs.specs.evaluation.Execute.{again, body_run, enter, in_function, inside, look, look_all, meaning, run, run_all, settle, tested}
use Rattle.ec_meaning_defs.specs.evaluation.Expanded.{itself}
use Rattle.ec_meaning_defs.specs.evaluation.Results.{Res, value, on, broke, continued, went, back, over, after_body, after_switch, answered, at_address, changed, closing, done_there, exits_with, finished, function_end, made, on_done, on_number, on_value, returned, tried, without_answer, without_value, worked_out}
use Rattle.ec_meaning_defs.specs.evaluation.State.{State}
use Rattle.ec_meaning_defs.specs.evaluation.Whole.{main_run}
use Rattle.ec_meaning_defs.proofs.evaluation_lemmas.Induction.{eval_good, look_all_good, run_all_good, run_good, tasks_related}
use Rattle.ec_meaning_defs.proofs.evaluation_lemmas.WholeRuns.{waiting_kept}
use Rattle.ec_printf.specs.formats.Known.{channel_view, known_view}
use Rattle.ec_meaning_defs.specs.functions.Functions.{Effect, answers, ends, misfit as no_call, puts_bytes, effect_of, traps as traps_there}
use Rattle.ec_memory_defs.specs.Kinds.{kind_type}
use Rattle.ec_memory_defs.specs.Memory.{Memory, ValueData, address, copy, end_to, last_number, make, number, store}
use Rattle.ec_plain.specs.Steps.{both_on, followed, step_on}
use Rattle.ec_plain.proofs.Walks.{walk_leads}
use Rattle.ec_meaning_defs.specs.resolved.Labels.{same, holds, holds_any}
use Rattle.ec_meaning_defs.specs.resolved.Operations.{Worked, gives, is_true, misfit, traps, value_as, worked}
use Rattle.ec_meaning_defs.specs.resolved.Programs.{Function as Resolved}
use Rattle.ec_meaning_defs.specs.resolved.Resolved.{Exp, constant, library, Mark, named, case, default, Exps, no_exps, exps, Stm, on_line, nothing, evaluate, declare, initialize, block, choose, loop, leave, next, return, goto, label, select, embedded_statement, Stms}
use Rattle.ec_values.specs.Operations.{operation_view}
use Rattle.ec_values.specs.Words.{word_view}
use Rattle.ec_machine.proofs.Fuel.{all_unwritten, functions_unwritten, unwritten}
use Rattle.ec_machine.specs.declared.frame.Callee.{Callee}
use Rattle.ec_machine.specs.declared.frame.Callee.TheVariants as callee
use Rattle.ec_machine.specs.declared.frame.Flow.{Flow}
use Rattle.ec_machine.specs.declared.frame.Flow.TheVariants as flow
use Rattle.ec_machine.specs.declared.frame.Focus.{Focus}
use Rattle.ec_machine.specs.declared.frame.Focus.TheVariants as focus
use Rattle.ec_machine.specs.declared.frame.Frame.{Frame}
use Rattle.ec_machine.specs.declared.frame.Frame.TheVariants as frame
use Rattle.ec_machine.specs.Frames.{Env, behind_of, below, body_of, denote, here, led, outside, plug, received, resume, selected, test_of, waiting}
use Rattle.ec_machine.specs.Goes.{tasks}
use Rattle.ec_interp.specs.running.Sessions.{Adds}

-- ---- states

pub grows_itself : (s : State) → Grows s s
grows_itself s = record {
  printed = ([], sym (append-nil s.output));
  complained = ([], sym (append-nil s.errors));
  said = ([], sym (append-nil s.conversation));
}

front_on : {A : Type 0} (xs ys zs : List A) → ((more : List A) × (ys ≡ xs ++ more)) → ((more : List A) × (zs ≡ ys ++ more)) → (more : List A) × (zs ≡ xs ++ more)
front_on xs ys zs f g = (f.0 ++ g.0, g.1 ∙ ap (λ a. a ++ g.0) f.1 ∙ append_assoc xs f.0 g.0)

pub grows_on : (s t u : State) → Grows s t → Grows t u → Grows s u
grows_on s t u a b = record {
  printed = front_on s.output t.output u.output a.printed b.printed;
  complained = front_on s.errors t.errors u.errors a.complained b.complained;
  said = front_on s.conversation t.conversation u.conversation a.said b.said;
}

changed_memory : (s : State) (m : Memory) → Grows s (record s { memory = m })
changed_memory s m = record {
  printed = (grows_itself s).printed;
  complained = (grows_itself s).complained;
  said = (grows_itself s).said;
}

-- ---- parts that look at nothing

exits_grows : (v : Option ValueData) (s : State) → Grows s (state_of (exits_with v s))
exits_grows None s = grows_itself s
exits_grows (Some v) s = grows_itself s

none_grows : (line : ℕ) (used : Bool) (s : State) → Grows s (state_of (without_value line used s))
none_grows line true s = grows_itself s
none_grows line false s = grows_itself s

returned_grows : (first : Bool) (v : Option ValueData) (s : State) → Grows s (state_of (returned first v s))
returned_grows true v s = exits_grows v s
returned_grows false v s = grows_itself s

tried_grows : {A : Type 0} (line : ℕ) (r : Result A Trap) (s : State) (k : A → Res) → ((a : A) → Grows s (state_of (k a))) → Grows s (state_of (tried line r s k))
tried_grows line (Ok a) s k g = g a
tried_grows line (Err trap) s k g = grows_itself s

changed_grows : (line : ℕ) (r : Result Memory Trap) (s : State) (k : State → Res) → ((t : State) → Grows t (state_of (k t))) → Grows s (state_of (changed line r s k))
changed_grows line r s k g =
    tried_grows line r s (λ m. k (record s { memory = m }))
    (λ m. grows_on s (record s { memory = m }) (state_of (k (record s { memory = m }))) (changed_memory s m) (g (record s { memory = m })))

number_grows : (v : ValueData) (s : State) (k : ℤ → Res) → ((z : ℤ) → Grows s (state_of (k z))) → Grows s (state_of (on_number v s k))
number_grows (number z) s k g = g z
number_grows (address p) s k g = grows_itself s

address_grows : (v : ValueData) (s : State) (k : ℕ → Res) → ((p : ℕ) → Grows s (state_of (k p))) → Grows s (state_of (at_address v s k))
address_grows (address p) s k g = g p
address_grows (number z) s k g = grows_itself s

worked_grows : (line : ℕ) (r : Worked) (s : State) (k : ValueData → Res) → ((v : ValueData) → Grows s (state_of (k v))) → Grows s (state_of (worked_out line r s k))
worked_grows line (gives v) s k g = g v
worked_grows line (traps trap) s k g = grows_itself s
worked_grows line misfit s k g = grows_itself s

effect_grows : (line : ℕ) (f : Effect) (s : State) → Grows s (state_of (done_there line f s))
effect_grows line (answers v m output errors) s = record {
  printed = (output, refl);
  complained = (errors, refl);
  said = (grows_itself s).said;
}
effect_grows line (traps_there trap) s = grows_itself s
effect_grows line (ends status) s = grows_itself s
effect_grows line no_call s = grows_itself s

both_grows : (line : ℕ) (b : Binary) (v old x : ValueData) (u : State) → Grows u (state_of (both_on line b v old x u))
both_grows line (binary.Store kind) v old x u =
    address_grows v u (λ p. changed line (store u.memory p (kind_type kind) x) u (λ r. value x r))
    (λ p. changed_grows line (store u.memory p (kind_type kind) x) u (λ r. value x r) grows_itself)
both_grows line (binary.Copy size) v old x u =
    address_grows v u (λ p. at_address x u (λ q. changed line (copy u.memory p q size) u (λ r. value (address p) r)))
    (λ p. address_grows x u (λ q. changed line (copy u.memory p q size) u (λ r. value (address p) r))
    (λ q. changed_grows line (copy u.memory p q size) u (λ r. value (address p) r) grows_itself))
both_grows line (binary.Update n) v old x u =
    address_grows v u (λ p. worked_out line (worked (operation_view n.operation) u.memory (value_as (kind_type n.widened) old) x) u (λ new. updated line (update_view n) p old new u))
    (λ p. worked_grows line (worked (operation_view n.operation) u.memory (value_as (kind_type n.widened) old) x) u (λ new. updated line (update_view n) p old new u)
    (λ new. changed_grows line (store u.memory p (kind_type n.kind) (value_as (kind_type n.kind) new)) u (λ t. value (elim n.gives_old [ true ↦ old | false ↦ value_as (kind_type n.kind) new ]) t) grows_itself))
both_grows line (binary.Operate op) v old x u =
    worked_grows line (worked (operation_view op) u.memory v x) u (λ z. value z u) (λ z. grows_itself u)
both_grows line binary.Both v old x u = grows_itself u
both_grows line binary.Either v old x u = grows_itself u

chosen_grows : (b : Bool) (s : State) (x y : Res) → Grows s (state_of x) → Grows s (state_of y) → Grows s (state_of (elim b [ true ↦ x | false ↦ y ]))
chosen_grows true s x y g h = g
chosen_grows false s x y g h = h

made_grows : (line : ℕ) (sizes objects : List ℕ) (s : State) (k : List ℕ → State → Res) → ((os : List ℕ) (t : State) → Grows t (state_of (k os t))) → Grows s (state_of (made line sizes objects s k))
made_grows line [] objects s k g = g objects s
made_grows line (size ∷ sizes) objects s k g =
    tried_grows line (make s.memory size) s (λ r. made line sizes (objects ++ r.0 ∷ []) (record s { memory = r.1 }) k)
    (λ r. grows_on s (record s { memory = r.1 }) (state_of (made line sizes (objects ++ r.0 ∷ []) (record s { memory = r.1 }) k))
    (changed_memory s r.1) (made_grows line sizes (objects ++ r.0 ∷ []) (record s { memory = r.1 }) k g))

-- ---- parts that go on

value_grows : (o : Res) (k : ValueData → State → Res) → ((v : ValueData) (u : State) → Grows u (state_of (k v u))) → Grows (state_of o) (state_of (on_value o k))
value_grows (value v s) k g = g v s
value_grows (on s) k g = grows_itself s
value_grows (broke s) k g = grows_itself s
value_grows (continued s) k g = grows_itself s
value_grows (went l s) k g = grows_itself s
value_grows (back v s) k g = grows_itself s
value_grows (over e s) k g = grows_itself s

done_grows : (o : Res) (k : State → Res) → ((u : State) → Grows u (state_of (k u))) → Grows (state_of o) (state_of (on_done o k))
done_grows (value v s) k g = grows_itself s
done_grows (on s) k g = g s
done_grows (broke s) k g = grows_itself s
done_grows (continued s) k g = grows_itself s
done_grows (went l s) k g = grows_itself s
done_grows (back v s) k g = grows_itself s
done_grows (over e s) k g = grows_itself s

body_grows : (o : Res) (k : State → Res) → ((u : State) → Grows u (state_of (k u))) → Grows (state_of o) (state_of (after_body o k))
body_grows (value v s) k g = grows_itself s
body_grows (on s) k g = g s
body_grows (broke s) k g = grows_itself s
body_grows (continued s) k g = g s
body_grows (went l s) k g = grows_itself s
body_grows (back v s) k g = grows_itself s
body_grows (over e s) k g = grows_itself s

switch_grows : (o : Res) → Grows (state_of o) (state_of (after_switch o))
switch_grows (value v s) = grows_itself s
switch_grows (on s) = grows_itself s
switch_grows (broke s) = grows_itself s
switch_grows (continued s) = grows_itself s
switch_grows (went l s) = grows_itself s
switch_grows (back v s) = grows_itself s
switch_grows (over e s) = grows_itself s

closing_grows : (n : ℕ) (o : Res) → Grows (state_of o) (state_of (closing n o))
closing_grows n (value v s) = grows_itself s
closing_grows n (on s) = changed_memory s (end_to s.memory n)
closing_grows n (broke s) = changed_memory s (end_to s.memory n)
closing_grows n (continued s) = changed_memory s (end_to s.memory n)
closing_grows n (went l s) = changed_memory s (end_to s.memory n)
closing_grows n (back v s) = changed_memory s (end_to s.memory n)
closing_grows n (over e s) = grows_itself s

function_grows : (otherwise : Option ValueData) (o : Res) → Grows (state_of o) (state_of (function_end otherwise o))
function_grows otherwise (value v s) = grows_itself s
function_grows otherwise (on s) = grows_itself s
function_grows otherwise (broke s) = grows_itself s
function_grows otherwise (continued s) = grows_itself s
function_grows otherwise (went l s) = grows_itself s
function_grows otherwise (back v s) = grows_itself s
function_grows otherwise (over e s) = grows_itself s

finished_grows : (otherwise : Option ValueData) (o : Res) → Grows (state_of o) (state_of (finished otherwise o))
finished_grows otherwise (value v s) = grows_itself s
finished_grows otherwise (on s) = exits_grows otherwise s
finished_grows otherwise (broke s) = grows_itself s
finished_grows otherwise (continued s) = grows_itself s
finished_grows otherwise (went l s) = grows_itself s
finished_grows otherwise (back v s) = grows_itself s
finished_grows otherwise (over e s) = grows_itself s

answered_grows : (line : ℕ) (used : Bool) (o : Res) → Grows (state_of o) (state_of (answered line used o))
answered_grows line used (value v s) = grows_itself s
answered_grows line used (on s) = grows_itself s
answered_grows line used (broke s) = grows_itself s
answered_grows line used (continued s) = grows_itself s
answered_grows line used (went l s) = grows_itself s
answered_grows line used (back None s) = none_grows line used s
answered_grows line used (back (Some v) s) = grows_itself s
answered_grows line used (over e s) = grows_itself s

pub unanswered_grows : (o : Res) → Grows (state_of o) (state_of (without_answer o))
unanswered_grows (value v s) = grows_itself s
unanswered_grows (on s) = grows_itself s
unanswered_grows (broke s) = grows_itself s
unanswered_grows (continued s) = grows_itself s
unanswered_grows (went l s) = grows_itself s
unanswered_grows (back v s) = grows_itself s
unanswered_grows (over e s) = grows_itself s

-- ---- expressions and statements, among tasks that only add

abbrev Tasks : World → Type 0
Tasks w = Related Always (WhenAnswered []) Grows 0 [] itself w w

module _ (knowing : Knowing) (adds : Adds knowing) (w : World) (related : Tasks w) where
  behind : (s : State) (o o' : Res) → Grows s (state_of o) → Grows (state_of o) (state_of o') → Grows s (state_of o')
  behind s o o' g h = grows_on s (state_of o) (state_of o') g h

  eval_grows : (c : Context) (e : Exp) (s : State) → Grows s (state_of (eval knowing w c e s))
  eval_grows c e s = (eval_good Always (WhenAnswered []) Grows 0 [] (waiting_kept []) knowing knowing itself adds w w related c e).later s

  run_grows : (c : Context) (x : Stm) (s : State) → Grows s (state_of (run knowing w c x s))
  run_grows c x s =
      subst (λ y. Grows s (state_of (run knowing w c y s))) (unwritten x)
      ((run_good Always (WhenAnswered []) Grows 0 [] (waiting_kept []) knowing knowing itself adds w w related c x).later s)

  run_all_grows : (c : Context) (x : Stms) (s : State) → Grows s (state_of (run_all knowing w c x s))
  run_all_grows c x s =
      subst (λ y. Grows s (state_of (run_all knowing w c y s))) (all_unwritten x)
      ((run_all_good Always (WhenAnswered []) Grows 0 [] (waiting_kept []) knowing knowing itself adds w w related c x).later s)

  look_all_grows : (l : Mark) (c : Context) (x : Stms) (s : State) → Grows s (state_of (look_all knowing w l c x s))
  look_all_grows l c x s =
      subst (λ y. Grows s (state_of (look_all knowing w l c y s))) (all_unwritten x)
      ((look_all_good Always (WhenAnswered []) Grows 0 [] (waiting_kept []) knowing knowing itself adds w w related l c x).later s)

  step_grows : (c : Context) (x : Step) (v : ValueData) (s : State) → Grows s (state_of (step_on knowing w c x v s))
  step_grows c x v s =
      subst (λ o. Grows s (state_of o)) (walk_leads knowing w c (constant v) (x ∷ []) s)
      (eval_grows c (walked (constant v) (x ∷ [])) s)

  followed_grows : (c : Context) (xs : List Step) (o : Res) → Grows (state_of o) (state_of (followed knowing w c xs o))
  followed_grows c [] o = grows_itself (state_of o)
  followed_grows c (x ∷ xs) o =
      behind (state_of o) (on_value o (step_on knowing w c x)) (followed knowing w c xs (on_value o (step_on knowing w c x)))
      (value_grows o (step_on knowing w c x) (step_grows c x)) (followed_grows c xs (on_value o (step_on knowing w c x)))

  collect_grows : (c : Context) (vs : List ValueData) (es : Exps) (s : State) (k : List ValueData → State → Res) → ((xs : List ValueData) (t : State) → Grows t (state_of (k xs t))) → Grows s (state_of (collect knowing w c vs es s k))
  collect_grows c vs no_exps s k g = g vs s
  collect_grows c vs (exps e es) s k g =
      behind s (eval knowing w c e s) (on_value (eval knowing w c e s) (λ v t. collect knowing w c (vs ++ v ∷ []) es t k))
      (eval_grows c e s)
      (value_grows (eval knowing w c e s) (λ v t. collect knowing w c (vs ++ v ∷ []) es t k) (λ v t. collect_grows c (vs ++ v ∷ []) es t k g))

  turn_grows : (c : Context) (test b : Option Exp) (x : Stm) (s : State) → Grows s (state_of (w (turn_of c test b x) s))
  turn_grows c test b x s = subst (λ y. Grows s (state_of (w (turn_of c test b y) s))) (unwritten x) (related.later (turn_of c test b x) s)

  tested_grows : (c : Context) (test b : Option Exp) (x : Stm) (s : State) → Grows s (state_of (tested knowing w c test b x s))
  tested_grows c None b x s = turn_grows c None b x s
  tested_grows c (Some e) b x s =
      behind s (eval knowing w c e s) (tested knowing w c (Some e) b x s) (eval_grows c e s)
      (value_grows (eval knowing w c e s) (λ v t. elim (is_true v) [ true ↦ w (turn_of c (Some e) b x) t | false ↦ on t ])
      (λ v t. chosen_grows (is_true v) t (w (turn_of c (Some e) b x) t) (on t) (turn_grows c (Some e) b x t) (grows_itself t)))

  again_grows : (c : Context) (test b : Option Exp) (x : Stm) (s : State) → Grows s (state_of (again knowing w c test b x s))
  again_grows c test None x s = tested_grows c test None x s
  again_grows c test (Some e) x s =
      behind s (eval knowing w c e s) (again knowing w c test (Some e) x s) (eval_grows c e s)
      (value_grows (eval knowing w c e s) (λ v t. tested knowing w c test (Some e) x t) (λ v t. tested_grows c test (Some e) x t))

  look_for_grows : (c : Context) (l : ℕ) (b : Stms) (s : State) → Grows s (state_of (w (look_for c l b) s))
  look_for_grows c l b s = subst (λ y. Grows s (state_of (w (look_for c l y) s))) (all_unwritten b) (related.later (look_for c l b) s)

  settle_grows : (c : Context) (b : Stms) (o : Res) → Grows (state_of o) (state_of (settle w c b o))
  settle_grows c b (value v s) = grows_itself s
  settle_grows c b (on s) = grows_itself s
  settle_grows c b (broke s) = grows_itself s
  settle_grows c b (continued s) = grows_itself s
  settle_grows c b (went l s) = chosen_grows (holds_any (named l) b) s (w (look_for c l b) s) (went l s) (look_for_grows c l b s) (grows_itself s)
  settle_grows c b (back v s) = grows_itself s
  settle_grows c b (over e s) = grows_itself s

  enter_grows : (c : Context) (sizes : List ℕ) (b : Stms) (go : Context → State → Res) (s : State) → ((d : Context) (t : State) → Grows t (state_of (go d t))) → Grows s (state_of (enter w c sizes b go s))
  enter_grows c sizes b go s g =
      behind s (made c.line sizes c.objects s (λ objects t. settle w (inside c objects) b (go (inside c objects) t))) (enter w c sizes b go s)
      (made_grows c.line sizes c.objects s (λ objects t. settle w (inside c objects) b (go (inside c objects) t))
      (λ objects t. behind t (go (inside c objects) t) (settle w (inside c objects) b (go (inside c objects) t)) (g (inside c objects) t) (settle_grows (inside c objects) b (go (inside c objects) t))))
      (closing_grows (last_number s.memory) (made c.line sizes c.objects s (λ objects t. settle w (inside c objects) b (go (inside c objects) t))))

  look_grows : (l : Mark) (c : Context) (x : Stm) (s : State) → Grows s (state_of (look knowing w l c x s))
  look_grows l c (on_line n x) s = look_grows l (record c { line = n }) x s
  look_grows l c nothing s = grows_itself s
  look_grows l c (evaluate e) s = grows_itself s
  look_grows l c (declare i size) s = grows_itself s
  look_grows l c (initialize i size es) s = grows_itself s
  look_grows l c (block sizes b) s = enter_grows c sizes b (λ d t. look_all knowing w l d b t) s (λ d t. look_all_grows l d b t)
  look_grows l c (choose e a b) s =
      chosen_grows (holds l a) s (look knowing w l c a s) (look knowing w l c b s) (look_grows l c a s) (look_grows l c b s)
  look_grows l c (loop first test b x) s =
      behind s (look knowing w l c x s) (after_body (look knowing w l c x s) (λ t. again knowing w c test b x t))
      (look_grows l c x s) (body_grows (look knowing w l c x s) (λ t. again knowing w c test b x t) (λ t. again_grows c test b x t))
  look_grows l c leave s = grows_itself s
  look_grows l c next s = grows_itself s
  look_grows l c (return e) s = grows_itself s
  look_grows l c (goto m) s = grows_itself s
  look_grows l c (label m x) s =
      chosen_grows (same m l) s (run knowing w c x s) (look knowing w l c x s) (run_grows c x s) (look_grows l c x s)
  look_grows l c (select e x) s = behind s (look knowing w l c x s) (after_switch (look knowing w l c x s)) (look_grows l c x s) (switch_grows (look knowing w l c x s))
  look_grows l c (embedded_statement n) s = grows_itself s

  from_grows : (l : Mark) (c : Context) (x : Stm) (s : State) → Grows s (state_of (after_switch (look knowing w l c x s)))
  from_grows l c x s = behind s (look knowing w l c x s) (after_switch (look knowing w l c x s)) (look_grows l c x s) (switch_grows (look knowing w l c x s))

  selected_grows : (c : Context) (x : Stm) (l : Mark) (s : State) → Grows s (state_of (selected knowing w c x l s))
  selected_grows c x l s =
      chosen_grows (holds l x) s (after_switch (look knowing w l c x s)) (elim (holds default x) [ true ↦ after_switch (look knowing w default c x s) | false ↦ on s ])
      (from_grows l c x s)
      (chosen_grows (holds default x) s (after_switch (look knowing w default c x s)) (on s) (from_grows default c x s) (grows_itself s))

  -- ---- what is looked at, and what waits

  led_grows : (f : Flow) (s : State) → Grows s (state_of (led f s))
  led_grows flow.On s = grows_itself s
  led_grows flow.Broke s = grows_itself s
  led_grows flow.Continued s = grows_itself s
  led_grows (flow.Went l) s = grows_itself s
  led_grows (flow.Back v) s = grows_itself s

  library_grows : (c : Context) (n : ℕ) (vs : List ValueData) (s : State) → Grows s (state_of (without_answer (knowing w c (library n vs) s)))
  library_grows c n vs s =
      behind s (knowing w c (library n vs) s) (without_answer (knowing w c (library n vs) s)) ((adds.libraries w w related c n vs).later s) (unanswered_grows (knowing w c (library n vs) s))

  pub denote_grows : (e : Env) (line : Line) (text : List ℕ) (f : Focus) (s : State) → Grows s (state_of (denote knowing w e line text f s))
  denote_grows e line text (focus.Runs x) s = run_grows (here e line) (statement_view x.now) s
  denote_grows e line text (focus.Looks l x) s = look_grows (mark_view l) (here e line) (statement_view x.now) s
  denote_grows e line text (focus.Evaluates x) s = eval_grows (here e line) (expression_view x.now) s
  denote_grows e line text (focus.Value v) s = grows_itself s
  denote_grows e line text (focus.Puts channel v) s = effect_grows line.0 (puts_bytes (channel_view channel) (option_map word_view v) s.memory text) s
  denote_grows e line text (focus.Calls n k) s = library_grows (here e line) n (waiting k e) s
  denote_grows e line text (focus.Leads f) s = led_grows f s

  received_grows : (c : Context) (x : Callee) (vs : List ValueData) (s : State) → Grows s (state_of (received knowing w c x vs s))
  received_grows c (callee.Function f used) vs s =
      behind s (w (calls c.line f vs) s) (answered c.line used (w (calls c.line f vs) s)) (related.later (calls c.line f vs) s) (answered_grows c.line used (w (calls c.line f vs) s))
  received_grows c (callee.Known f) vs s = effect_grows c.line (effect_of (known_view f.now) s.memory vs) s
  received_grows c (callee.Library n) vs s = library_grows c n vs s
  received_grows c callee.Object vs s = grows_itself s

  plug_grows : (e : Env) (f : Frame) (o : Res) → Grows (state_of o) (state_of (plug knowing w e f o))
  plug_grows e (frame.Steps line xs) o = followed_grows (here e line) (map full_step_view xs.now) o
  plug_grows e (frame.Right line b v old xs) o =
      let k = both_on line.0 b.now (word_view v) (word_view old) in
      behind (state_of o) (on_value o k) (followed knowing w (here e line) (map full_step_view xs.now) (on_value o k))
      (value_grows o k (both_grows line.0 b.now (word_view v) (word_view old))) (followed_grows (here e line) (map full_step_view xs.now) (on_value o k))
  plug_grows e (frame.Arguments line x n es xs) o =
      let k : ValueData → State → Res = λ v t. collect knowing w (here e line) (waiting n e ++ v ∷ []) (expressions_view es.now) t (received knowing w (here e line) x) in
      behind (state_of o) (on_value o k) (followed knowing w (here e line) (map full_step_view xs.now) (on_value o k))
      (value_grows o k (λ v t. collect_grows (here e line) (waiting n e ++ v ∷ []) (expressions_view es.now) t (received knowing w (here e line) x) (received_grows (here e line) x)))
      (followed_grows (here e line) (map full_step_view xs.now) (on_value o k))
  plug_grows e (frame.Call x) o =
      let d = here (outside x e) x.line in
      let b = statements_view x.function.now.body in
      let g = option_map word_view x.function.now.otherwise in
      let q = settle w (here e x.line) b o in
      let r = closing x.mark q in
      let p = function_end g r in
      let a = answered x.line.0 x.used p in
      behind (state_of o) a (followed knowing w d (map full_step_view x.steps.now) a)
      (behind (state_of o) p a
      (behind (state_of o) r p
      (behind (state_of o) q r (settle_grows (here e x.line) b o) (closing_grows x.mark q))
      (function_grows g r))
      (answered_grows x.line.0 x.used p))
      (followed_grows d (map full_step_view x.steps.now) a)
  plug_grows e (frame.Called line n xs) o = followed_grows (here e line) (map full_step_view xs.now) o
  plug_grows e frame.Do o = value_grows o (λ v t. on t) (λ v t. grows_itself t)
  plug_grows e frame.Give o = value_grows o (λ v t. returned e.first (Some v) t) (λ v t. returned_grows e.first (Some v) t)
  plug_grows e (frame.Choose line a b) o =
      value_grows o (λ v t. elim (is_true v) [ true ↦ run knowing w (here e line) (statement_view a.now) t | false ↦ run knowing w (here e line) (statement_view b.now) t ])
      (λ v t. chosen_grows (is_true v) t (run knowing w (here e line) (statement_view a.now) t) (run knowing w (here e line) (statement_view b.now) t)
      (run_grows (here e line) (statement_view a.now) t) (run_grows (here e line) (statement_view b.now) t))
  plug_grows e (frame.Choice line a b) o =
      value_grows o (λ v t. elim (is_true v) [ true ↦ eval knowing w (here e line) (expression_view a.now) t | false ↦ eval knowing w (here e line) (expression_view b.now) t ])
      (λ v t. chosen_grows (is_true v) t (eval knowing w (here e line) (expression_view a.now) t) (eval knowing w (here e line) (expression_view b.now) t)
      (eval_grows (here e line) (expression_view a.now) t) (eval_grows (here e line) (expression_view b.now) t))
  plug_grows e (frame.Select line x) o =
      let d = here e line in
      let y = statement_view x.now in
      value_grows o (λ v t. on_number v t (λ z. selected knowing w d y (case z) t)) (λ v t. number_grows v t (λ z. selected knowing w d y (case z) t) (λ z. selected_grows d y (case z) t))
  plug_grows e frame.Switch o = switch_grows o
  plug_grows e (frame.Test line x) o =
      value_grows o (λ v t. elim (is_true v) [ true ↦ w (turn_of (here e line) (test_of x.now) (behind_of x.now) (body_of x.now)) t | false ↦ on t ])
      (λ v t. chosen_grows (is_true v) t (w (turn_of (here e line) (test_of x.now) (behind_of x.now) (body_of x.now)) t) (on t)
      (turn_grows (here e line) (test_of x.now) (behind_of x.now) (body_of x.now) t)
      (grows_itself t))
  plug_grows e (frame.Behind line x) o =
      value_grows o (λ v t. tested knowing w (here e line) (test_of x.now) (behind_of x.now) (body_of x.now) t)
      (λ v t. tested_grows (here e line) (test_of x.now) (behind_of x.now) (body_of x.now) t)
  plug_grows e (frame.Body line x) o =
      body_grows o (λ t. again knowing w (here e line) (test_of x.now) (behind_of x.now) (body_of x.now) t)
      (λ t. again_grows (here e line) (test_of x.now) (behind_of x.now) (body_of x.now) t)
  plug_grows e (frame.Rest line xs) o =
      done_grows o (λ t. run_all knowing w (here e line) (statements_view xs.now) t) (λ t. run_all_grows (here e line) (statements_view xs.now) t)
  plug_grows e (frame.Settle line xs) o = settle_grows (here e line) (statements_view xs.now) o
  plug_grows e (frame.Close mark height count) o = closing_grows mark o

  pub resume_grows : (e : Env) (fs : List Frame) (o : Res) → Grows (state_of o) (state_of (resume knowing w e fs o))
  resume_grows e [] o = finished_grows (option_map word_view e.otherwise) o
  resume_grows e (f ∷ fs) o =
      grows_on (state_of o) (state_of (plug knowing w e f o)) (state_of (resume knowing w (below e f) fs (plug knowing w e f o))) (plug_grows e f o) (resume_grows (below e f) fs (plug knowing w e f o))

  pub main_grows : (f : Option Resolved) (s : State) → Grows s (state_of (main_run knowing w f s))
  main_grows None s = grows_itself s
  main_grows (Some f) s =
      let k : List ℕ → State → Res = λ objects t. body_run knowing w (in_function 1 objects true) f t in
      behind s (made 1 f.objects [] s k) (finished f.otherwise (made 1 f.objects [] s k))
      (made_grows 1 f.objects [] s k (λ objects t.
      let d = in_function 1 objects true in
      behind t (run_all knowing w d f.body t) (settle w d f.body (run_all knowing w d f.body t)) (run_all_grows d f.body t) (settle_grows d f.body (run_all knowing w d f.body t))))
      (finished_grows f.otherwise (made 1 f.objects [] s k))

-- ---- the tasks of a program

module _ (knowing : Knowing) (adds : Adds knowing) where
  related_tasks : (fs : List Resolved) (n : ℕ) → Tasks (meaning knowing fs n)
  related_tasks fs n =
      subst (λ gs. Related Always (WhenAnswered []) Grows 0 [] itself (meaning knowing fs n) (meaning knowing gs n)) (functions_unwritten fs)
      (tasks_related Always (WhenAnswered []) Grows 0 [] (waiting_kept []) knowing knowing itself adds fs n)

  -- what is looked at, and what waits for it, only add
  pub stands_grows : (fs : List Function) (k : ℕ) (e : Env) (frames : List Frame) (line : Line) (text : List ℕ) (f : Focus) (s : State) → Grows s (state_of (resume knowing (tasks knowing fs k) e frames (denote knowing (tasks knowing fs k) e line text f s)))
  stands_grows fs k e frames line text f s =
      let w = tasks knowing fs k in
      let r = related_tasks (map function_view fs) k in
      grows_on s (state_of (denote knowing w e line text f s)) (state_of (resume knowing w e frames (denote knowing w e line text f s)))
      (denote_grows knowing adds w r e line text f s) (resume_grows knowing adds w r e frames (denote knowing w e line text f s))

  -- what waits for an answer only adds
  pub resumes_grows : (fs : List Function) (k : ℕ) (e : Env) (frames : List Frame) (o : Res) → Grows (state_of o) (state_of (resume knowing (tasks knowing fs k) e frames o))
  resumes_grows fs k e frames o = resume_grows knowing adds (tasks knowing fs k) (related_tasks (map function_view fs) k) e frames o

  -- the first `main` only adds
  pub mains_grow : (fs : List Function) (k : ℕ) (f : Option Resolved) (s : State) → Grows s (state_of (main_run knowing (tasks knowing fs k) f s))
  mains_grow fs k f s = main_grows knowing adds (tasks knowing fs k) (related_tasks (map function_view fs) k) f s

  -- a call only adds
  pub calls_grow : (fs : List Function) (k : ℕ) (c : Context) (n : ℕ) (vs : List ValueData) (s : State) → Grows s (state_of (knowing (tasks knowing fs k) c (library n vs) s))
  calls_grow fs k c n vs s = (adds.libraries (tasks knowing fs k) (tasks knowing fs k) (related_tasks (map function_view fs) k) c n vs).later s
