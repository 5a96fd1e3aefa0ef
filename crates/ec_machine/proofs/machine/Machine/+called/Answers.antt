use Rattle.std.proofs.Common.{List, Ok, Some, [], ap, arith, drop, false, length, map, refl, subst, sym, take, ℕ, ◌++◌, ◌+◌, ◌-◌, ◌∙◌, ◌∷◌, ◌≡◌, ◌≤◌, None}
use Rattle.std.specs.Option.{option_map}
use Rattle.std.specs.Prelude.{reverse, slice_get}
use Rattle.ec_code.specs.Views.{expression_view, expressions_view, full_step_view, full_view, function_view, head_view, plain_view, statement_view, statements_view}
use Rattle.ec_code.specs.declared.expression.Full.{out-Full}
use Rattle.ec_meaning_defs.specs.evaluation.Evaluate.{Step as Knowing, Task, World, calls, collect, eval}
use Rattle.ec_meaning_defs.specs.evaluation.Execute.{act, body_run, called, in_function, run, run_all, settle}
use Rattle.ec_meaning_defs.specs.evaluation.Results.{Res, answered, back, closing, done_there, function_end, given, made, on, on_done, on_value, returned, value, without_answer}
use Rattle.ec_meaning_defs.specs.evaluation.State.{State}
use Rattle.ec_printf.specs.formats.Known.{known_view}
use Rattle.ec_meaning_defs.specs.functions.Functions.{effect_of}
use Rattle.ec_machine.proofs.Evaluating.{full_leads, to_Choice, to_Full, to_Plain}
use Rattle.ec_machine.proofs.Finding.{alone_finds, alone_near, ended_with, finds_after, finds_as, finds_at, finds_from, finds_left, finds_none, finds_some, finds_stop, finds_value, front_back, goes_after, leaves_as, leaves_fewer, near_left, near_none, near_stop, near_value, no_values_found, stays_on, taken_back}
use Rattle.ec_machine.proofs.Moves.{back_again, closed, followed_led, goes_as, goes_at, no_objects, pushed, stands_by}
use Rattle.ec_machine.proofs.Parts.{front_is, none_left, stops_through}
use Rattle.ec_machine.proofs.Quickly.{answers_none, answers_some, answers_stops, keeps_not, keeps_on, list_none, list_some, list_stops, remaining_less, stops_as, stops_over}
use Rattle.ec_machine.proofs.Turns.{begins, stops_by}
use Rattle.ec_machine.proofs.Views.{view-Begun, view-Call, view-Known, view-LibraryCall, view-One, view-Two}
use Rattle.ec_machine.proofs.Weighing.{front_expressions, front_steps, pushed_weight, pushes, weight-Call, weight-Choice, weight-Full, weight-Known, weight-LibraryCall, weight-Two, weight-full}
use Rattle.ec_machine.specs.Found.{Finds, found_view}
use Rattle.ec_machine.specs.Frames.{Grown, behind_by, cut, here, left_by, objects_of, outside, received, resume, waiting}
use Rattle.ec_machine.specs.Goes.{at, env_of, taken, tasks}
use Rattle.ec_machine.specs.Quick.{passing}
use Rattle.ec_machine.specs.Weights.{expression_weight, expressions_weight, frames_weight, full_step_weight, head_weight, remaining, steps_weight}
use Rattle.ec_machine.specs.declared.frame.Way.{Way}
use Rattle.ec_memory_defs.specs.Memory.{last_number, scalar_size}
use Rattle.ec_plain.proofs.Walks.{followed_over}
use Rattle.ec_plain.specs.Answered.{at as over_memory, context, ending_of, scope_view}
use Rattle.ec_plain.specs.Ready.{readied}
use Rattle.ec_plain.specs.Steps.{both_on, one_on, step_on, two_on}
use Rattle.ec_meaning_defs.specs.resolved.Resolved.{choice, library}
use Rattle.ec_values.specs.Words.{word_view}
use Rattle.ec_machine.specs.declared.frame.Callee.TheVariants as callee
use Rattle.ec_plain.specs.declared.both.Ready.TheVariants as ready
use Rattle.ec_machine.specs.declared.frame.Flow.TheVariants as flow
use Rattle.ec_machine.specs.declared.frame.Focus.TheVariants as focus
use Rattle.ec_machine.specs.declared.frame.Frame.TheVariants as frame
use Rattle.ec_machine.specs.declared.stop.Stop.TheVariants as stop
use Rattle.ec_machine.specs.declared.stop.End.TheVariants as ends
use Rattle.ec_machine.specs.declared.machine.Machine.{Machine as MachineData}
use Rattle.ec_machine.proofs.machine.Machine.+called.Goals as goal

pub begin-returns-in-Err-clause-finds : goal.begin-returns-in-Err-clause-finds
begin-returns-in-Err-clause-finds t c =
    let fs = c.args.functions.now in
    let m = c.args.self.now in
    let d = here (env_of m) m.line in
    let f = function_view c.args.function.now in
    let vs = waiting c.args.count (env_of m) in
    finds_stop fs m (record m { store = c.make_locals.new.store; scope = c.make_locals.new.scope }) (taken c.args.count (env_of m)) m.line (behind_by d c.args.steps.now) (λ knowing w t. answered m.line.0 c.args.used (called knowing w m.line.0 (Some f) vs t)) (found_view c.waits.result) c.waits.new.left c.in-Err.stop
    (λ knowing w e s. followed_over knowing w d (map full_step_view c.args.steps.now) e s) c.waits.ensures.none c.waits.ensures.left
    (λ knowing fits k s l. let w = tasks knowing fs k in
    let t = record s { turns = m.turns } in
    let n = record m { store = c.make_locals.new.store } in
    let next : List ℕ → State → Res = λ objects r. body_run knowing w (in_function m.line.0 objects false) f r in
    let inner : List ℕ → List _ → Res = λ os vs. made m.line.0 (map scalar_size f.parameters) os (at s m) (λ ps u. given m.line.0 f.parameters (drop (length os) ps) vs u (λ v. made m.line.0 f.objects ps v next)) in
    let around : Res → Res = λ o. answered m.line.0 c.args.used (function_end f.otherwise o) in
    stops_through around (λ e u. refl) c.in-Err.stop (at s n) (closing (last_number m.store) (inner [] vs))
    (closed (last_number m.store) c.in-Err.stop (at s n) (inner [] vs)
    (stops_by c.in-Err.stop (at s n) _ _
    (ap (λ os. inner os vs) (sym (ap (λ y. scope_view (objects_of y)) c.enter-saved.ensures.scope ∙ ap scope_view (no_objects m.scope.pointers)))
    ∙ ap (λ vs. inner (scope_view (objects_of c.enter-saved.new.self)) (map word_view vs)) (sym c.last-values.ensures))
    (c.in-Err.ensures.made t next))))

pub begin-returns-clause-finds : goal.begin-returns-clause-finds
begin-returns-clause-finds t c =
    let fs = c.args.functions.now in
    let m = c.args.self.now in
    let d = here (env_of m) m.line in
    let e = taken c.args.count (env_of m) in
    let f = function_view c.args.function.now in
    let vs = waiting c.args.count (env_of m) in
    let sc = c.make_locals.new.scope in
    let n = record m { store = c.make_locals.new.store; scope = sc; first = false; values = c.drop_last.new.values } in
    let x : Way = record { line = m.line; used = c.args.used; first = m.first; mark = c.mark-mark.result; height = c.len-height.result; count = c.enter-saved.result; function = c.args.function; steps = c.args.steps } in
    let back : cut c.len-height.result c.enter-saved.result sc ≡ m.scope =
    (λ i. cut (c.len-height.ensures i) (c.enter-saved.ensures.count i) sc)
    ∙ back_again (env_of m) sc (subst (λ y. Grown y.pointers sc.pointers) c.enter-saved.ensures.scope c.in-Ok.ensures.grown) in
    let there : outside x (env_of n) ≡ e = λ i. record (env_of m) { scope = back i; values = c.drop_last.ensures i } in
    finds_from fs m n c.in_body.new.self e m.line (behind_by d c.args.steps.now) (λ knowing w t. answered m.line.0 c.args.used (called knowing w m.line.0 (Some f) vs t))
    (λ knowing w t. left_by x (settle w (here (env_of n) m.line) (statements_view c.args.function.now.body) (run_all knowing w (here (env_of n) m.line) (statements_view c.args.function.now.body) t))) (found_view c.in_body.result) c.in_body.new.left refl (omega arith)
    (λ knowing fits k s l. let w = tasks knowing fs k in
    let t = record s { turns = m.turns } in
    let next : List ℕ → State → Res = λ objects r. body_run knowing w (in_function m.line.0 objects false) f r in
    let inner : List ℕ → List _ → Res = λ os vs. made m.line.0 (map scalar_size f.parameters) os (at s m) (λ ps u. given m.line.0 f.parameters (drop (length os) ps) vs u (λ v. made m.line.0 f.objects ps v next)) in
    let around : Res → Res = λ o. answered m.line.0 c.args.used (function_end f.otherwise o) in
    ap (λ o. around (closing (last_number m.store) o))
    (ap (λ os. inner os vs) (sym (ap (λ y. scope_view (objects_of y)) c.enter-saved.ensures.scope ∙ ap scope_view (no_objects m.scope.pointers)))
    ∙ ap (λ vs. inner (scope_view (objects_of c.enter-saved.new.self)) (map word_view vs)) (sym c.last-values.ensures)
    ∙ c.in-Ok.ensures.made t next)
    ∙ ap (λ x. around (closing x (next (scope_view (objects_of sc)) (at s n)))) (sym c.mark-mark.ensures))
    (subst (λ z. Finds fs n z m.line (behind_by (here z m.line) c.args.steps.now) (λ knowing w t. left_by x (settle w (here (env_of n) m.line) (statements_view c.args.function.now.body) (run_all knowing w (here (env_of n) m.line) (statements_view c.args.function.now.body) t))) (found_view c.in_body.result) c.in_body.new.left c.in_body.new.self) there
    (c.in_body.ensures.finds))

pub begun-returns-in-Begun-clause-finds : goal.begun-returns-in-Begun-clause-finds
begun-returns-in-Begun-clause-finds t c =
    let fs = c.args.functions.now in
    let m = c.args.self.now in
    let d = here (env_of m) m.line in
    let xs = c.args.steps.now in
    finds_as fs m c.at_first.new.self (env_of m) m.line (behind_by d xs) (λ knowing w t. eval knowing w d (head_view c.args.head.now) t) (λ knowing w t. eval knowing w d (plain_view c.in-Begun.plain) t) (found_view c.at_first.result) c.at_first.new.left
    (λ knowing w t. ap (λ z. eval knowing w d z t) (ap head_view c.in-Begun.is ∙ view-Begun c.in-Begun.plain))
    (alone_finds fs m c.at_first.new.self (behind_by d xs) (λ knowing w t. eval knowing w d (plain_view c.in-Begun.plain) t) (found_view c.at_first.result) c.at_first.new.left (λ knowing w e s. followed_over knowing w d (map full_step_view xs) e s) c.at_first.ensures.finds)

pub begun-returns-in-Call-clause-finds : goal.begun-returns-in-Call-clause-finds
begun-returns-in-Call-clause-finds t c =
    let fs = c.args.functions.now in
    let m = c.args.self.now in
    let d = here (env_of m) m.line in
    let xs = c.args.steps.now in
    let es = c.as_slice.result.now in
    let f = callee.Function c.in-Call.function c.in-Call.used in
    finds_as fs m c.pass.new.self (env_of m) m.line (behind_by d xs) (λ knowing w t. eval knowing w d (head_view c.args.head.now) t) (λ knowing w t. collect knowing w d [] (expressions_view es) t (received knowing w d f)) (found_view c.pass.result) c.pass.new.left
    (λ knowing w t. ap (λ z. eval knowing w d z t) (ap head_view c.in-Call.is ∙ view-Call c.in-Call.function c.in-Call.used c.in-Call.arguments)
    ∙ ap (λ es. collect knowing w d [] (expressions_view es) t (received knowing w d f)) (sym c.as_slice.ensures))
    (no_values_found fs m c.pass.new.self (behind_by d xs) (found_view c.pass.result) c.pass.new.left (λ vs knowing w t. collect knowing w d vs (expressions_view es) t (received knowing w d f)) c.pass.ensures.finds)

pub begun-returns-in-Known-clause-finds : goal.begun-returns-in-Known-clause-finds
begun-returns-in-Known-clause-finds t c =
    let fs = c.args.functions.now in
    let m = c.args.self.now in
    let d = here (env_of m) m.line in
    let xs = c.args.steps.now in
    let es = c.as_slice-in-Known.result.now in
    finds_as fs m c.pass-in-Known.new.self (env_of m) m.line (behind_by d xs) (λ knowing w t. eval knowing w d (head_view c.args.head.now) t) (λ knowing w t. collect knowing w d [] (expressions_view es) t (λ vs u. done_there m.line.0 (effect_of (known_view c.in-Known.known) u.memory vs) u)) (found_view c.pass-in-Known.result) c.pass-in-Known.new.left
    (λ knowing w t. ap (λ z. eval knowing w d z t) (ap head_view c.in-Known.is ∙ view-Known c.in-Known.known c.in-Known.arguments)
    ∙ ap (λ es. collect knowing w d [] (expressions_view es) t (λ vs u. done_there m.line.0 (effect_of (known_view c.in-Known.known) u.memory vs) u)) (sym c.as_slice-in-Known.ensures))
    (no_values_found fs m c.pass-in-Known.new.self (behind_by d xs) (found_view c.pass-in-Known.result) c.pass-in-Known.new.left (λ vs knowing w t. collect knowing w d vs (expressions_view es) t (λ vs u. done_there m.line.0 (effect_of (known_view c.in-Known.known) u.memory vs) u)) c.pass-in-Known.ensures.finds)

pub begun-returns-in-LibraryCall-clause-finds : goal.begun-returns-in-LibraryCall-clause-finds
begun-returns-in-LibraryCall-clause-finds t c =
    let fs = c.args.functions.now in
    let m = c.args.self.now in
    let d = here (env_of m) m.line in
    let xs = c.args.steps.now in
    let es = c.as_slice-in-LibraryCall.result.now in
    let g = callee.Library c.in-LibraryCall.number in
    finds_as fs m c.pass-in-LibraryCall.new.self (env_of m) m.line (behind_by d xs) (λ knowing w t. eval knowing w d (head_view c.args.head.now) t) (λ knowing w t. collect knowing w d [] (expressions_view es) t (received knowing w d g)) (found_view c.pass-in-LibraryCall.result) c.pass-in-LibraryCall.new.left
    (λ knowing w t. ap (λ z. eval knowing w d z t) (ap head_view c.in-LibraryCall.is ∙ view-LibraryCall c.in-LibraryCall.number c.in-LibraryCall.pointers)
    ∙ ap (λ es. collect knowing w d [] (expressions_view es) t (received knowing w d g)) (sym c.as_slice-in-LibraryCall.ensures))
    (no_values_found fs m c.pass-in-LibraryCall.new.self (behind_by d xs) (found_view c.pass-in-LibraryCall.result) c.pass-in-LibraryCall.new.left (λ vs knowing w t. collect knowing w d vs (expressions_view es) t (received knowing w d g)) c.pass-in-LibraryCall.ensures.finds)

pub begun-returns-in-Choice-clause-finds : goal.begun-returns-in-Choice-clause-finds
begun-returns-in-Choice-clause-finds t c =
    let fs = c.args.functions.now in
    let m = c.args.self.now in
    let d = here (env_of m) m.line in
    let xs = c.args.steps.now in
    let a = c.get.result.now in
    let b = c.get-in-Choice.result.now in
    let e = c.get-in-Choice-2.result.now in
    finds_as fs m c.choice.new.self (env_of m) m.line (behind_by d xs) (λ knowing w t. eval knowing w d (head_view c.args.head.now) t) (λ knowing w t. eval knowing w d (choice (expression_view a) (expression_view b) (expression_view e)) t) (found_view c.choice.result) c.choice.new.left
    (λ knowing w t. to_Choice knowing w d t c.args.head.now c.in-Choice.test c.in-Choice.first c.in-Choice.second a b e c.in-Choice.is c.get.ensures c.get-in-Choice.ensures c.get-in-Choice-2.ensures)
    (c.choice.ensures.finds fs)

pub begun-returns-in-Begun-clause-nears : goal.begun-returns-in-Begun-clause-nears
begun-returns-in-Begun-clause-nears t c = alone_near c.args.self.now.turns _ c.args.self.now c.at_first.new.self (λ knowing w t. eval knowing w (here (env_of c.args.self.now) c.args.self.now.line) (plain_view c.in-Begun.plain) t) (found_view c.at_first.result) c.at_first.new.left c.at_first.ensures.finds

pub begun-returns-in-Call-clause-nears : goal.begun-returns-in-Call-clause-nears
begun-returns-in-Call-clause-nears t c = leaves_as c.args.self.now.turns c.args.self.now.turns _ _ (found_view c.pass.result) c.pass.new.left c.pass.new.self (omega arith) (omega (arith, ap head_weight c.in-Call.is ∙ weight-Call _ _ _, ap expressions_weight c.as_slice.ensures)) c.pass.ensures.nears

pub begun-returns-in-Known-clause-nears : goal.begun-returns-in-Known-clause-nears
begun-returns-in-Known-clause-nears t c = leaves_as c.args.self.now.turns c.args.self.now.turns _ _ (found_view c.pass-in-Known.result) c.pass-in-Known.new.left c.pass-in-Known.new.self (omega arith) (omega (arith, ap head_weight c.in-Known.is ∙ weight-Known _ _, ap expressions_weight c.as_slice-in-Known.ensures)) c.pass-in-Known.ensures.nears

pub begun-returns-in-LibraryCall-clause-nears : goal.begun-returns-in-LibraryCall-clause-nears
begun-returns-in-LibraryCall-clause-nears t c = leaves_as c.args.self.now.turns c.args.self.now.turns _ _ (found_view c.pass-in-LibraryCall.result) c.pass-in-LibraryCall.new.left c.pass-in-LibraryCall.new.self (omega arith) (omega (arith, ap head_weight c.in-LibraryCall.is ∙ weight-LibraryCall _ _, ap expressions_weight c.as_slice-in-LibraryCall.ensures)) c.pass-in-LibraryCall.ensures.nears

pub begun-returns-in-Choice-clause-nears : goal.begun-returns-in-Choice-clause-nears
begun-returns-in-Choice-clause-nears t c = leaves_as c.args.self.now.turns c.args.self.now.turns _ _ (found_view c.choice.result) c.choice.new.left c.choice.new.self (omega arith) (omega (arith, ap head_weight c.in-Choice.is ∙ weight-Choice _ _ _, ap expression_weight c.get.ensures, ap expression_weight c.get-in-Choice.ensures, ap expression_weight c.get-in-Choice-2.ensures)) c.choice.ensures.nears

pub call-returns-in-Ok-clause-finds : goal.call-returns-in-Ok-clause-finds
call-returns-in-Ok-clause-finds t c =
    let fs = c.args.functions.now in
    let m = c.args.self.now in
    let n = record m { turns = c.take_turn.new.turns } in
    let d = here (env_of m) m.line in
    let vs = waiting c.args.count (env_of m) in
    let t : Task = calls m.line.0 c.args.number vs in
    finds_from fs m n c.start.new.self (taken c.args.count (env_of m)) m.line (behind_by d c.args.steps.now) (λ knowing w u. answered m.line.0 c.args.used (w t u))
    (λ knowing w u. answered m.line.0 c.args.used (called knowing w m.line.0 (slice_get (map function_view fs) c.args.number) vs u)) (found_view c.start.result) c.start.new.left refl (omega (arith, c.in-Ok.ensures.fewer))
    (λ knowing fits k s l. let w = tasks knowing fs k in
    ap (answered m.line.0 c.args.used) (begins knowing fits fs k s m t l ∙ c.in-Ok.ensures.turn (at s m) (λ u. act knowing (map function_view fs) w t u)))
    c.start.ensures.finds

pub call-returns-in-Err-clause-finds : goal.call-returns-in-Err-clause-finds
call-returns-in-Err-clause-finds t c =
    let fs = c.args.functions.now in
    let m = c.args.self.now in
    let n = record m { turns = c.take_turn.new.turns } in
    let d = here (env_of m) m.line in
    let t : Task = calls m.line.0 c.args.number (waiting c.args.count (env_of m)) in
    finds_stop fs m n (taken c.args.count (env_of m)) m.line (behind_by d c.args.steps.now) (λ knowing w u. answered m.line.0 c.args.used (w t u)) (found_view c.waits.result) c.waits.new.left c.in-Err.stop
    (λ knowing w e s. followed_over knowing w d (map full_step_view c.args.steps.now) e s) c.waits.ensures.none c.waits.ensures.left
    (λ knowing fits k s l. let w = tasks knowing fs k in
    stops_through (answered m.line.0 c.args.used) (λ e u. refl) c.in-Err.stop (at s n) (w t (at s m))
    (stops_by c.in-Err.stop (at s n) _ _ (begins knowing fits fs k s m t l) (c.in-Err.ensures.turn (at s m) (λ u. act knowing (map function_view fs) w t u))))

pub call-returns-in-Ok-clause-nears : goal.call-returns-in-Ok-clause-nears
call-returns-in-Ok-clause-nears t c = leaves_fewer c.args.self.now.turns 0 (found_view c.start.result) c.start.new.left c.start.new.self (omega (arith, c.start.ensures.turns, c.in-Ok.ensures.taken))

pub call-returns-in-Err-clause-nears : goal.call-returns-in-Err-clause-nears
call-returns-in-Err-clause-nears t c = near_stop c.args.self.now.turns (found_view c.waits.result) c.waits.new.left (record c.args.self.now { turns = c.take_turn.new.turns }) _ c.in-Err.stop c.waits.ensures.none c.waits.ensures.left

pub follow-loop-further-init : goal.follow-loop-further-init
follow-loop-further-init t c = record { comes = λ knowing fits k s l. refl; stays = record { frames = refl; env = refl; same_line = refl }; turns = omega arith; lighter = omega arith }

pub follow-loop-further-preserved : goal.follow-loop-further-preserved
follow-loop-further-preserved t c =
    let fs = c.args.functions.now in
    let i = c.loop-further.invariant in
    let m = c.loop-further.self in
    let n = c.follow_first.new.self in
    let d = here (env_of m) m.line in
    let xs = c.loop-further.further.now in
    let x = c.first-item.result in
    let ys = take (length xs - 1) (drop 1 xs) in
    let e : xs ≡ x ∷ ys = front_is xs x c.in-len1-up.len_at_least c.first-item.is in
    let v = word_view c.loop-further.value in
    let a = finds_some fs m n (env_of m) m.line (behind_by d ys) (λ knowing w t. step_on knowing w d (full_step_view x) v t) (found_view c.follow_first.result) c.follow_first.new.left c.in-Some.next (sym c.get.ensures ∙ c.in-Some.is) c.follow_first.ensures.finds in
    record {
      comes = λ knowing fits k s l. let w = tasks knowing fs k in
          i.comes knowing fits k s l
          ∙ ap (λ zs. behind_by d zs knowing w (value v (at s m))) e
          ∙ (λ j. behind_by (here (sym a.0.env j) (sym a.0.same_line j)) ys knowing w (a.1 knowing fits k s (omega (arith, l, i.turns)) j));
      stays = stays_on c.args.self.now m n i.stays a.0;
      turns = omega (arith, c.follow_first.ensures.turns, i.turns);
      lighter = omega (arith, i.lighter, front_steps xs x c.in-len1-up.len_at_least c.first-item.is);
    }

pub follow-returns-clause-finds : goal.follow-returns-clause-finds
follow-returns-clause-finds t c =
    let fs = c.args.functions.now in
    let i = c.loop-further.invariant in
    let m = c.args.self.now in
    let n = c.loop-further.self in
    finds_value fs m n (env_of m) m.line (λ knowing w o. o) (λ knowing w t. behind_by (here (env_of m) m.line) c.args.steps.now knowing w (value (word_view c.args.value) t)) (found_view c.value.result) c.loop-further.left c.loop-further.value c.value.ensures i.stays
    (λ knowing fits k s l. i.comes knowing fits k s l
    ∙ ap (λ zs. behind_by (here (env_of n) n.line) zs knowing (tasks knowing fs k) (value (word_view c.loop-further.value) (at s n))) (none_left c.loop-further.further.now c.in_default.len_below))

pub follow-returns-in-None-clause-finds : goal.follow-returns-in-None-clause-finds
follow-returns-in-None-clause-finds t c =
    let fs = c.args.functions.now in
    let i = c.loop-further.invariant in
    let m = c.loop-further.self in
    let d = here (env_of m) m.line in
    let xs = c.loop-further.further.now in
    let x = c.first-item.result in
    let ys = take (length xs - 1) (drop 1 xs) in
    let e : xs ≡ x ∷ ys = front_is xs x c.in-len1-up.len_at_least c.first-item.is in
    let v = word_view c.loop-further.value in
    goes_after fs c.args.self.now m c.follow_first.new.self (env_of c.args.self.now) c.args.self.now.line
    (λ knowing w t. behind_by (here (env_of c.args.self.now) c.args.self.now.line) c.args.steps.now knowing w (value (word_view c.args.value) t))
    (λ knowing w t. behind_by d ys knowing w (step_on knowing w d (full_step_view x) v t)) c.follow_first.new.left i.stays i.turns
    (λ knowing fits k s l. i.comes knowing fits k s l ∙ ap (λ zs. behind_by d zs knowing (tasks knowing fs k) (value v (at s m))) e)
    (finds_none fs m c.follow_first.new.self (env_of m) m.line (behind_by d ys) (λ knowing w t. step_on knowing w d (full_step_view x) v t) (found_view c.follow_first.result) c.follow_first.new.left (sym c.get.ensures ∙ c.in-None.is) c.follow_first.ensures.finds)

pub follow-returns-clause-nears : goal.follow-returns-clause-nears
follow-returns-clause-nears t c = near_value c.args.self.now.turns (found_view c.value.result) c.loop-further.left c.loop-further.self _ c.loop-further.value c.value.ensures

pub follow-returns-in-None-clause-nears : goal.follow-returns-in-None-clause-nears
follow-returns-in-None-clause-nears t c =
    let i = c.loop-further.invariant in
    let m = c.loop-further.self in
    omega (
      arith,
      remaining_less c.args.self.now.turns m.turns c.follow_first.new.left c.follow_first.new.self i.turns,
      near_left m.turns (found_view c.follow_first.result) c.follow_first.new.left c.follow_first.new.self _ (sym c.get.ensures ∙ c.in-None.is) c.follow_first.ensures.nears,
      ap frames_weight i.stays.frames,
      i.lighter,
      front_steps c.loop-further.further.now c.first-item.result c.in-len1-up.len_at_least c.first-item.is,
    )

pub follow_first-returns-in-One-clause-finds : goal.follow_first-returns-in-One-clause-finds
follow_first-returns-in-One-clause-finds t c =
    let fs = c.args.functions.now in
    let m = c.args.self.now in
    let d = here (env_of m) m.line in
    let xs = c.args.rest.now in
    let v = word_view c.args.value in
    finds_as fs m c.follow_one.new.self (env_of m) m.line (behind_by d xs) (λ knowing w t. step_on knowing w d (full_step_view c.args.first.now) v t) (λ knowing w t. one_on m.line.0 c.in-One.step v t) (found_view c.follow_one.result) c.follow_one.new.left
    (λ knowing w t. ap (λ z. step_on knowing w d z v t) (ap full_step_view c.in-One.is ∙ view-One c.in-One.step))
    (alone_finds fs m c.follow_one.new.self (behind_by d xs) (λ knowing w t. one_on m.line.0 c.in-One.step v t) (found_view c.follow_one.result) c.follow_one.new.left (λ knowing w e s. followed_over knowing w d (map full_step_view xs) e s) c.follow_one.ensures.finds)

pub follow_first-returns-in-Two-clause-finds : goal.follow_first-returns-in-Two-clause-finds
follow_first-returns-in-Two-clause-finds t c =
    let fs = c.args.functions.now in
    let m = c.args.self.now in
    let d = here (env_of m) m.line in
    let xs = c.args.rest.now in
    let v = word_view c.args.value in
    finds_as fs m c.follow_two.new.self (env_of m) m.line (behind_by d xs) (λ knowing w t. step_on knowing w d (full_step_view c.args.first.now) v t) (λ knowing w t. two_on knowing w d c.in-Two.step (expression_view c.in-Two.right) v t) (found_view c.follow_two.result) c.follow_two.new.left
    (λ knowing w t. ap (λ z. step_on knowing w d z v t) (ap full_step_view c.in-Two.is ∙ view-Two c.in-Two.step c.in-Two.right))
    c.follow_two.ensures.finds

pub follow_first-returns-in-One-clause-nears : goal.follow_first-returns-in-One-clause-nears
follow_first-returns-in-One-clause-nears t c = alone_near c.args.self.now.turns _ c.args.self.now c.follow_one.new.self (λ knowing w t. one_on c.args.self.now.line.0 c.in-One.step (word_view c.args.value) t) (found_view c.follow_one.result) c.follow_one.new.left c.follow_one.ensures.finds

pub follow_first-returns-in-Two-clause-nears : goal.follow_first-returns-in-Two-clause-nears
follow_first-returns-in-Two-clause-nears t c = leaves_as c.args.self.now.turns c.args.self.now.turns _ _ (found_view c.follow_two.result) c.follow_two.new.left c.follow_two.new.self (omega arith) (omega (arith, ap full_step_weight c.in-Two.is ∙ weight-Two _ _)) c.follow_two.ensures.nears

pub follow_two-returns-in-Ok-Done-clause-finds : goal.follow_two-returns-in-Ok-Done-clause-finds
follow_two-returns-in-Ok-Done-clause-finds t c =
    let fs = c.args.functions.now in
    let m = c.args.self.now in
    let d = here (env_of m) m.line in
    let y = expression_view c.args.right.now in
    let v = word_view c.args.value in
    let r : c.prepare.result ≡ Ok (ready.Done c.in-Ok-Done.done) = cc (c.in-Ok-Done.is, c.in-Ok-Done.field-0-is) in
    finds_value fs m m (env_of m) m.line (behind_by d c.args.rest.now) (λ knowing w t. two_on knowing w d c.args.step.now y v t) (found_view c.value.result) c.args.left.now c.in-Ok-Done.done c.value.ensures (record { frames = refl; env = refl; same_line = refl })
    (λ knowing fits k s l. let w = tasks knowing fs k in
    c.prepare.ensures knowing w d y (at s m) ∙ ap (λ r. readied knowing w d c.args.step.now y v r (at s m)) r)

pub follow_two-returns-in-Some-clause-finds : goal.follow_two-returns-in-Some-clause-finds
follow_two-returns-in-Some-clause-finds t c =
    let fs = c.args.functions.now in
    let m = c.args.self.now in
    let n = c.right.new.self in
    let d = here (env_of m) m.line in
    let y = expression_view c.args.right.now in
    let v = word_view c.args.value in
    let old = word_view c.in-Ok-Waits.old in
    let b = c.args.step.now in
    let r : c.prepare.result ≡ Ok (ready.Waits c.in-Ok-Waits.old) = cc (c.in-Ok-Waits.is, c.in-Ok-Waits.field-0-is) in
    let a = finds_some fs m n (env_of m) m.line (λ knowing w o. behind_by d c.args.rest.now knowing w (on_value o (both_on m.line.0 b v old))) (λ knowing w t. eval knowing w d y t) (found_view c.right.result) c.right.new.left c.in-Some.found (sym c.get.ensures ∙ c.in-Some.is) c.right.ensures.finds in
    finds_after fs m n c.follow_right.new.self (env_of m) m.line (behind_by d c.args.rest.now) (λ knowing w t. two_on knowing w d b y v t) (λ knowing w t. both_on n.line.0 b v old (word_view c.in-Some.found) t) (found_view c.follow_right.result) c.follow_right.new.left a.0 c.right.ensures.turns
    (λ knowing fits k s l. let w = tasks knowing fs k in
    c.prepare.ensures knowing w d y (at s m) ∙ ap (λ r. readied knowing w d b y v r (at s m)) r
    ∙ ap (λ o. on_value o (both_on m.line.0 b v old)) (a.1 knowing fits k s l)
    ∙ ap (λ line. both_on line.0 b v old (word_view c.in-Some.found) (at s n)) (sym a.0.same_line))
    (alone_finds fs n c.follow_right.new.self (behind_by d c.args.rest.now) (λ knowing w t. both_on n.line.0 b v old (word_view c.in-Some.found) t) (found_view c.follow_right.result) c.follow_right.new.left (λ knowing w e s. followed_over knowing w d (map full_step_view c.args.rest.now) e s) c.follow_right.ensures.finds)

pub follow_two-returns-in-None-clause-finds : goal.follow_two-returns-in-None-clause-finds
follow_two-returns-in-None-clause-finds t c =
    let fs = c.args.functions.now in
    let m = c.args.self.now in
    let n = c.right.new.self in
    let d = here (env_of m) m.line in
    let y = expression_view c.args.right.now in
    let v = word_view c.args.value in
    let old = word_view c.in-Ok-Waits.old in
    let b = c.args.step.now in
    let r : c.prepare.result ≡ Ok (ready.Waits c.in-Ok-Waits.old) = cc (c.in-Ok-Waits.is, c.in-Ok-Waits.field-0-is) in
    goes_at fs m n (env_of m) (λ knowing w t. behind_by d c.args.rest.now knowing w (two_on knowing w d b y v t)) (λ knowing w t. behind_by d c.args.rest.now knowing w (on_value (eval knowing w d y t) (both_on m.line.0 b v old))) c.right.new.left
    (λ knowing w s. ap (behind_by d c.args.rest.now knowing w) (c.prepare.ensures knowing w d y (at s m) ∙ ap (λ r. readied knowing w d b y v r (at s m)) r))
    (finds_none fs m n (env_of m) m.line (λ knowing w o. behind_by d c.args.rest.now knowing w (on_value o (both_on m.line.0 b v old))) (λ knowing w t. eval knowing w d y t) (found_view c.right.result) c.right.new.left (sym c.get.ensures ∙ c.in-None.is) c.right.ensures.finds)

pub follow_two-returns-in-Err-clause-finds : goal.follow_two-returns-in-Err-clause-finds
follow_two-returns-in-Err-clause-finds t c =
    let fs = c.args.functions.now in
    let m = c.args.self.now in
    let d = here (env_of m) m.line in
    let y = expression_view c.args.right.now in
    let v = word_view c.args.value in
    finds_stop fs m m (env_of m) m.line (behind_by d c.args.rest.now) (λ knowing w t. two_on knowing w d c.args.step.now y v t) (found_view c.waits.result) c.waits.new.left c.stopped.result (λ knowing w e s. followed_over knowing w d (map full_step_view c.args.rest.now) e s) c.waits.ensures.none c.waits.ensures.left
    (λ knowing fits k s l. let w = tasks knowing fs k in
    stops_over c.stopped.result (ending_of m.line.0 c.in-Err.why) (at s m) _ c.stopped.ensures
    (c.prepare.ensures knowing w d y (at s m) ∙ ap (λ r. readied knowing w d c.args.step.now y v r (at s m)) c.in-Err.is))

pub follow_two-returns-in-Ok-Done-clause-nears : goal.follow_two-returns-in-Ok-Done-clause-nears
follow_two-returns-in-Ok-Done-clause-nears t c = near_value c.args.self.now.turns (found_view c.value.result) c.args.left.now c.args.self.now _ c.in-Ok-Done.done c.value.ensures

pub follow_two-returns-in-Some-clause-nears : goal.follow_two-returns-in-Some-clause-nears
follow_two-returns-in-Some-clause-nears t c = alone_near c.args.self.now.turns _ c.right.new.self c.follow_right.new.self (λ knowing w t. both_on c.right.new.self.line.0 c.args.step.now (word_view c.args.value) (word_view c.in-Ok-Waits.old) (word_view c.in-Some.found) t) (found_view c.follow_right.result) c.follow_right.new.left c.follow_right.ensures.finds

pub follow_two-returns-in-None-clause-nears : goal.follow_two-returns-in-None-clause-nears
follow_two-returns-in-None-clause-nears t c = near_left c.args.self.now.turns (found_view c.right.result) c.right.new.left c.right.new.self _ (sym c.get.ensures ∙ c.in-None.is) c.right.ensures.nears

pub follow_two-returns-in-Err-clause-nears : goal.follow_two-returns-in-Err-clause-nears
follow_two-returns-in-Err-clause-nears t c = near_stop c.args.self.now.turns (found_view c.waits.result) c.waits.new.left c.args.self.now _ c.stopped.result c.waits.ensures.none c.waits.ensures.left

pub in_body-returns-in-Ok-None-clause-finds : goal.in_body-returns-in-Ok-None-clause-finds
in_body-returns-in-Ok-None-clause-finds t c =
    let fs = c.args.functions.now in
    let m = c.args.self.now in
    let x = c.args.way in
    let e = env_of m in
    let d = here e m.line in
    let b = statements_view x.function.now.body in
    let n = record m { store = c.quick_list.new.store; line = c.quick_list.new.line } in
    finds_from fs m n c.ended.new.self (outside x e) x.line (behind_by (here (outside x e) x.line) x.steps.now) (λ knowing w t. left_by x (settle w (here e x.line) b (run_all knowing w d b t)))
    (λ knowing w t. left_by x (back (option_map word_view x.function.now.otherwise) t)) (found_view c.ended.result) c.ended.new.left refl (omega arith)
    (λ knowing fits k s l. let w = tasks knowing fs k in
    ap (λ o. left_by x (settle w (here e x.line) b o))
    (ap (λ z. run_all knowing w d (statements_view z) (at s m)) (sym c.as_slice-body.ensures)
    ∙ list_none c.quick_list.result (run_all knowing w d (statements_view c.as_slice-body.result.now) (at s m)) (λ y. run knowing w (here e n.line) (statement_view y) (at s n)) (λ ys u. run_all knowing w d (statements_view ys) u) (at s n) (c.quick_list.ensures.leaves knowing w m.first (at s m)) (cc (c.in-Ok-None.is, c.in-Ok-None.field-0-is))))
    (c.ended.ensures.finds fs)

pub in_body-returns-in-Ok-Some-clause-finds : goal.in_body-returns-in-Ok-Some-clause-finds
in_body-returns-in-Ok-Some-clause-finds t c =
    let fs = c.args.functions.now in
    let m = c.args.self.now in
    let x = c.args.way in
    let e = env_of m in
    let d = here e m.line in
    let b = statements_view x.function.now.body in
    let n = record m { store = c.quick_list.new.store; line = c.quick_list.new.line } in
    let y = c.in-Ok-Some.found in
    finds_from fs m n c.in_statement.new.self (outside x e) x.line (behind_by (here (outside x e) x.line) x.steps.now) (λ knowing w t. left_by x (settle w (here e x.line) b (run_all knowing w d b t)))
    (λ knowing w t. left_by x (settle w (here e x.line) b (on_done (run knowing w (here e n.line) (statement_view y.first.now) t) (λ u. run_all knowing w (here e x.line) (statements_view y.rest.now) u)))) (found_view c.in_statement.result) c.in_statement.new.left refl (omega arith)
    (λ knowing fits k s l. let w = tasks knowing fs k in
    ap (λ o. left_by x (settle w (here e x.line) b o))
    (ap (λ z. run_all knowing w d (statements_view z) (at s m)) (sym c.as_slice-body.ensures)
    ∙ list_some c.quick_list.result (run_all knowing w d (statements_view c.as_slice-body.result.now) (at s m)) (λ y. run knowing w (here e n.line) (statement_view y) (at s n)) (λ ys u. run_all knowing w d (statements_view ys) u) (at s n) (c.quick_list.ensures.leaves knowing w m.first (at s m)) y (cc (c.in-Ok-Some.is, c.in-Ok-Some.field-0-is))
    ∙ ap (λ line. on_done (run knowing w (here e n.line) (statement_view y.first.now) (at s n)) (λ u. run_all knowing w (here e line) (statements_view y.rest.now) u)) (sym c.requires.same_line)))
    (c.in_statement.ensures.finds)

pub in_body-returns-in-Err-clause-finds : goal.in_body-returns-in-Err-clause-finds
in_body-returns-in-Err-clause-finds t c =
    let fs = c.args.functions.now in
    let m = c.args.self.now in
    let x = c.args.way in
    let e = env_of m in
    let d = here e m.line in
    let b = statements_view x.function.now.body in
    let n = record m { store = c.quick_list.new.store; line = c.quick_list.new.line } in
    finds_stop fs m n (outside x e) x.line (behind_by (here (outside x e) x.line) x.steps.now) (λ knowing w t. left_by x (settle w (here e x.line) b (run_all knowing w d b t))) (found_view c.waits.result) c.waits.new.left c.in-Err.stop
    (λ knowing w e' s. followed_over knowing w (here (outside x e) x.line) (map full_step_view x.steps.now) e' s) c.waits.ensures.none c.waits.ensures.left
    (λ knowing fits k s l. let w = tasks knowing fs k in
    stops_through (λ o. left_by x (settle w (here e x.line) b o)) (λ z u. refl) c.in-Err.stop (at s n) (run_all knowing w d b (at s m))
    (stops_as c.in-Err.stop (at s n) _ _ (ap (λ z. run_all knowing w d (statements_view z) (at s m)) (sym c.as_slice-body.ensures))
    (list_stops c.quick_list.result (run_all knowing w d (statements_view c.as_slice-body.result.now) (at s m)) (λ y. run knowing w (here e n.line) (statement_view y) (at s n)) (λ ys u. run_all knowing w d (statements_view ys) u) (at s n) (c.quick_list.ensures.leaves knowing w m.first (at s m)) c.in-Err.stop c.in-Err.is)))

pub in_statement-returns-in-Ok-Some-clause-finds : goal.in_statement-returns-in-Ok-Some-clause-finds
in_statement-returns-in-Ok-Some-clause-finds t c =
    let fs = c.args.functions.now in
    let m = c.args.self.now in
    let x = c.args.way in
    let e = env_of m in
    let d = here e m.line in
    let b = statements_view x.function.now.body in
    let n = record m { store = c.answer.new.store } in
    let p = c.leave.new.self in
    finds_value fs m p (outside x e) x.line (behind_by (here (outside x e) x.line) x.steps.now) (λ knowing w t. left_by x (settle w (here e x.line) b (on_done (run knowing w d (statement_view c.args.first.now) t) (λ u. run_all knowing w (here e x.line) (statements_view c.args.rest.now) u)))) (found_view c.value.result) c.args.left.now c.in-Ok-Some.value c.value.ensures
    (record { frames = ap (λ p. p.frames) c.leave.ensures.left; env = ap env_of c.leave.ensures.left; same_line = ap (λ p. p.line) c.leave.ensures.left })
    (λ knowing fits k s l. let w = tasks knowing fs k in
    ap (λ o. left_by x (settle w (here e x.line) b (on_done o (λ u. run_all knowing w (here e x.line) (statements_view c.args.rest.now) u))))
    (ap (λ f. run knowing w (context m.line.0 (objects_of m.scope) f) (statement_view c.args.first.now) (at s m)) c.requires.not_first
    ∙ answers_some c.answer.result m.store c.answer.new.store (run knowing w (context m.line.0 (objects_of m.scope) false) (statement_view c.args.first.now) (at s m)) (at s n) (c.answer.ensures knowing w (at s m)) c.in-Ok-Some.value (cc (c.in-Ok-Some.is, c.in-Ok-Some.field-0-is)))
    ∙ ended_with s n p x c.in-Ok-Some.value c.leave.ensures.left)

pub in_statement-returns-in-Ok-None-clause-finds : goal.in_statement-returns-in-Ok-None-clause-finds
in_statement-returns-in-Ok-None-clause-finds t c =
    let fs = c.args.functions.now in
    let m = c.args.self.now in
    let x = c.args.way in
    let e = env_of m in
    let d = here e m.line in
    let b = statements_view x.function.now.body in
    let n = record m { store = c.answer.new.store } in
    let part : Knowing → World → State → Res = λ knowing w t. left_by x (settle w (here e x.line) b (on_done (run knowing w d (statement_view c.args.first.now) t) (λ u. run_all knowing w (here e x.line) (statements_view c.args.rest.now) u))) in
    finds_from fs m n c.in_return.new.self (outside x e) x.line (behind_by (here (outside x e) x.line) x.steps.now) part part (found_view c.in_return.result) c.in_return.new.left refl (omega arith)
    (λ knowing fits k s l. let w = tasks knowing fs k in
    ap (λ st. left_by x (settle w (here e x.line) b (on_done (run knowing w d (statement_view c.args.first.now) (over_memory (at s m) st)) (λ u. run_all knowing w (here e x.line) (statements_view c.args.rest.now) u))))
    (sym (answers_none c.answer.result m.store c.answer.new.store (run knowing w (context m.line.0 (objects_of m.scope) false) (statement_view c.args.first.now) (at s m)) (at s n) (c.answer.ensures knowing w (at s m)) (cc (c.in-Ok-None.is, c.in-Ok-None.field-0-is)))))
    c.in_return.ensures.finds

pub in_return-returns-then-levels-gt0-clause-finds : goal.in_return-returns-then-levels-gt0-clause-finds
in_return-returns-then-levels-gt0-clause-finds t c =
    let fs = c.args.functions.now in
    let m = c.args.self.now in
    let x = c.args.way in
    let e = env_of m in
    let d = here e m.line in
    let b = statements_view x.function.now.body in
    let back_to : Knowing → World → Res → Res = λ knowing w o. left_by x (settle w (here e x.line) b (on_done o (λ u. run_all knowing w (here e x.line) (statements_view c.args.rest.now) u))) in
    finds_as fs m c.give_inside.new.self (outside x e) x.line (behind_by (here (outside x e) x.line) x.steps.now) (λ knowing w t. back_to knowing w (run knowing w d (statement_view c.args.first.now) t))
    (λ knowing w t. back_to knowing w (on_value (eval knowing w d (full_view c.in-Some.full.now) t) (λ v u. returned m.first (Some v) u))) (found_view c.give_inside.result) c.give_inside.new.left
    (λ knowing w t. ap (λ z. back_to knowing w (run knowing w d z t)) c.in-Some.ensures)
    c.give_inside.ensures.finds

pub in_return-returns-else-levels-gt0-clause-finds : goal.in_return-returns-else-levels-gt0-clause-finds
in_return-returns-else-levels-gt0-clause-finds t c =
    let fs = c.args.functions.now in
    let m = c.args.self.now in
    let x = c.args.way in
    let e = env_of m in
    let d = here e m.line in
    let b = statements_view x.function.now.body in
    finds_left fs m c.stay.new.self (outside x e) x.line (behind_by (here (outside x e) x.line) x.steps.now) (λ knowing w t. left_by x (settle w (here e x.line) b (on_done (run knowing w d (statement_view c.args.first.now) t) (λ u. run_all knowing w (here e x.line) (statements_view c.args.rest.now) u)))) (found_view c.waits.result) c.waits.new.left c.stay.result c.waits.ensures.none c.waits.ensures.left (c.stay.ensures.goes fs)

pub in_return-returns-in-None-clause-finds : goal.in_return-returns-in-None-clause-finds
in_return-returns-in-None-clause-finds t c =
    let fs = c.args.functions.now in
    let m = c.args.self.now in
    let x = c.args.way in
    let e = env_of m in
    let d = here e m.line in
    let b = statements_view x.function.now.body in
    finds_left fs m c.stay-in-None.new.self (outside x e) x.line (behind_by (here (outside x e) x.line) x.steps.now) (λ knowing w t. left_by x (settle w (here e x.line) b (on_done (run knowing w d (statement_view c.args.first.now) t) (λ u. run_all knowing w (here e x.line) (statements_view c.args.rest.now) u)))) (found_view c.waits-in-None.result) c.waits-in-None.new.left c.stay-in-None.result c.waits-in-None.ensures.none c.waits-in-None.ensures.left (c.stay-in-None.ensures.goes fs)

pub give_inside-returns-in-Some-clause-finds : goal.give_inside-returns-in-Some-clause-finds
give_inside-returns-in-Some-clause-finds t c =
    let fs = c.args.functions.now in
    let m = c.args.self.now in
    let x = c.args.way in
    let e = env_of m in
    let d = here e m.line in
    let b = statements_view x.function.now.body in
    let q = c.wait_outside.new.self in
    let all = c.push.new.self in
    let p = record m { frames = all } in
    let n = c.value_of.new.self in
    let u = record n { frames = c.truncate.new.self } in
    let v = word_view c.in-Some.value in
    let f = full_view c.args.full.now in
    let back_to : Knowing → World → Res → Res = λ knowing w o. left_by x (settle w (here e x.line) b (on_done o (λ u. run_all knowing w (here e x.line) (statements_view c.args.rest.now) u))) in
    let g = subst (λ p. Finds fs p (env_of p) p.line (λ knowing w o. o) (λ knowing w t. eval knowing w (here (env_of p) p.line) f t) (found_view c.value_of.result) c.value_of.new.left n) (ap (λ (z : MachineData). record z { frames = all }) c.wait_outside.ensures.kept) c.value_of.ensures.finds in
    let a = finds_some fs p n (env_of p) p.line (λ knowing w o. o) (λ knowing w t. eval knowing w d f t) (found_view c.value_of.result) c.value_of.new.left c.in-Some.value (sym c.get.ensures ∙ c.in-Some.is) g in
    let y = c.leave.ensures.left in
    let cut_back : c.truncate.new.self ≡ m.frames = c.truncate.ensures ∙ front_back m.frames q.frames n.frames c.in-Ok.ensures.waits.more frame.Give c.len-height.result c.len-height.ensures c.in-Ok.ensures.waits.frames (a.0.frames ∙ c.in-Ok-push.ensures.ok) in
    finds_value fs m c.leave.new.self (outside x e) x.line (behind_by (here (outside x e) x.line) x.steps.now) (λ knowing w t. back_to knowing w (on_value (eval knowing w d f t) (λ v u. returned m.first (Some v) u))) (found_view c.value.result) c.value_of.new.left c.in-Some.value c.value.ensures
    (record {
      frames = ap (λ p. p.frames) y ∙ cut_back;
      env = ap env_of y ∙ ap (outside x) a.0.env;
      same_line = ap (λ p. p.line) y;
    })
    (λ knowing fits k s l. let w = tasks knowing fs k in
    ap (λ o. back_to knowing w (on_value o (λ v u. returned m.first (Some v) u))) (a.1 knowing fits k s l)
    ∙ ap (λ z. back_to knowing w (returned z (Some v) (at s n))) c.requires.not_first
    ∙ ended_with s u c.leave.new.self x c.in-Some.value y)

pub give_inside-returns-in-None-clause-finds : goal.give_inside-returns-in-None-clause-finds
give_inside-returns-in-None-clause-finds t c =
    let fs = c.args.functions.now in
    let m = c.args.self.now in
    let x = c.args.way in
    let e = env_of m in
    let d = here e m.line in
    let b = statements_view x.function.now.body in
    let q = c.wait_outside.new.self in
    let all = c.push.new.self in
    let p = record m { frames = all } in
    let n = c.value_of.new.self in
    let f = full_view c.args.full.now in
    let g = subst (λ p. Finds fs p (env_of p) p.line (λ knowing w o. o) (λ knowing w t. eval knowing w (here (env_of p) p.line) f t) (found_view c.value_of.result) c.value_of.new.left n) (ap (λ (z : MachineData). record z { frames = all }) c.wait_outside.ensures.kept) c.value_of.ensures.finds in
    finds_left fs m n (outside x e) x.line (behind_by (here (outside x e) x.line) x.steps.now) (λ knowing w t. left_by x (settle w (here e x.line) b (on_done (on_value (eval knowing w d f t) (λ v u. returned m.first (Some v) u)) (λ u. run_all knowing w (here e x.line) (statements_view c.args.rest.now) u)))) None c.value_of.new.left c.value_of.new.left refl refl
    (λ knowing fits k s l. let w = tasks knowing fs k in
    let o = eval knowing w d f (at s m) in
    let r = on_value o (λ v u. returned m.first (Some v) u) in
    stands_by knowing w s n c.value_of.new.left _ _
    (sym (c.in-Ok.ensures.waits.resumes knowing w r)
    ∙ (λ i. resume knowing w (env_of (c.wait_outside.ensures.kept i)) (reverse q.frames) r)
    ∙ pushed knowing w e q.frames all frame.Give o c.in-Ok-push.ensures.ok)
    (finds_none fs p n (env_of p) p.line (λ knowing w o. o) (λ knowing w t. eval knowing w d f t) (found_view c.value_of.result) c.value_of.new.left (sym c.get.ensures ∙ c.in-None.is) g knowing fits k s l))

pub in_statement-returns-in-Err-clause-finds : goal.in_statement-returns-in-Err-clause-finds
in_statement-returns-in-Err-clause-finds t c =
    let fs = c.args.functions.now in
    let m = c.args.self.now in
    let x = c.args.way in
    let e = env_of m in
    let d = here e m.line in
    let b = statements_view x.function.now.body in
    let n = record m { store = c.answer.new.store } in
    finds_stop fs m n (outside x e) x.line (behind_by (here (outside x e) x.line) x.steps.now) (λ knowing w t. left_by x (settle w (here e x.line) b (on_done (run knowing w d (statement_view c.args.first.now) t) (λ u. run_all knowing w (here e x.line) (statements_view c.args.rest.now) u)))) (found_view c.waits.result) c.waits.new.left c.in-Err.stop
    (λ knowing w e' s. followed_over knowing w (here (outside x e) x.line) (map full_step_view x.steps.now) e' s) c.waits.ensures.none c.waits.ensures.left
    (λ knowing fits k s l. let w = tasks knowing fs k in
    stops_through (λ o. left_by x (settle w (here e x.line) b (on_done o (λ u. run_all knowing w (here e x.line) (statements_view c.args.rest.now) u)))) (λ z u. refl) c.in-Err.stop (at s n) (run knowing w d (statement_view c.args.first.now) (at s m))
    (stops_as c.in-Err.stop (at s n) _ _ (ap (λ f. run knowing w (context m.line.0 (objects_of m.scope) f) (statement_view c.args.first.now) (at s m)) c.requires.not_first) (answers_stops c.answer.result m.store c.answer.new.store (run knowing w (context m.line.0 (objects_of m.scope) false) (statement_view c.args.first.now) (at s m)) (at s n) (c.answer.ensures knowing w (at s m)) c.in-Err.stop c.in-Err.is)))

pub pass-loop-further-init : goal.pass-loop-further-init
pass-loop-further-init t c = record { comes = λ knowing w s. refl; env = refl; frames = refl; turns = refl; same_line = refl; lighter = omega arith }

pub pass-loop-further-preserved : goal.pass-loop-further-preserved
pass-loop-further-preserved t c =
    let m = c.loop-further.self in
    let n = c.keep.new.self in
    let d = here (env_of m) m.line in
    let es = c.loop-further.further.now in
    let x = c.first-item.result in
    let ys = take (length es - 1) (drop 1 es) in
    let e : es ≡ x ∷ ys = front_is es x c.in-len1-up.len_at_least c.first-item.is in
    let g = keeps_on c.in-Plain.plain c.loop-further.count m n c.keep.result c.in-Ok.more c.in-Ok.is c.keep.ensures.keeps in
    record {
      comes = λ knowing w s. c.loop-further.invariant.comes knowing w s
          ∙ ap (λ zs. collect knowing w d (waiting c.loop-further.count (env_of m)) (expressions_view zs) (at s m) (received knowing w d c.args.callee)) e
          ∙ ap (λ o. on_value o (λ v u. collect knowing w d (waiting c.loop-further.count (env_of m) ++ v ∷ []) (expressions_view ys) u (received knowing w d c.args.callee))) (to_Plain knowing w d (at s m) x c.in-Plain.plain c.in-Plain.is)
          ∙ g.1 knowing w s (λ vs u. collect knowing w d vs (expressions_view ys) u (received knowing w d c.args.callee))
          ∙ (λ i. collect knowing w (here (sym g.0 i) (sym c.keep.ensures.line i)) (waiting c.in-Ok.more (env_of n)) (expressions_view ys) (at s n) (received knowing w (here (sym g.0 i) (sym c.keep.ensures.line i)) c.args.callee));
      env = g.0 ∙ c.loop-further.invariant.env;
      frames = c.keep.ensures.frames ∙ c.loop-further.invariant.frames;
      turns = c.keep.ensures.turns ∙ c.loop-further.invariant.turns;
      same_line = c.keep.ensures.line ∙ c.loop-further.invariant.same_line;
      lighter = omega (arith, c.loop-further.invariant.lighter, front_expressions es x c.in-len1-up.len_at_least c.first-item.is);
    }

pub pass-returns-in-Err-clause-finds : goal.pass-returns-in-Err-clause-finds
pass-returns-in-Err-clause-finds t c =
    let fs = c.args.functions.now in
    let m = c.args.self.now in
    let p = c.loop-further.self in
    let n = c.keep.new.self in
    let d = here (env_of p) p.line in
    let xs = c.args.steps.now in
    let es = c.loop-further.further.now in
    let x = c.first-item.result in
    let ys = take (length es - 1) (drop 1 es) in
    let e : es ≡ x ∷ ys = front_is es x c.in-len1-up.len_at_least c.first-item.is in
    let g = keeps_not c.in-Plain.plain c.loop-further.count p n c.keep.result c.in-Err.stop c.in-Err.is c.keep.ensures.keeps in
    finds_stop fs m n (taken c.args.count (env_of m)) m.line (behind_by (here (env_of m) m.line) xs) (passing c.args.callee c.args.arguments.now c.args.count m) (found_view c.waits.result) c.waits.new.left c.in-Err.stop
    (λ knowing w e s. followed_over knowing w (here (env_of m) m.line) (map full_step_view xs) e s) c.waits.ensures.none c.waits.ensures.left
    (λ knowing fits k s l. let w = tasks knowing fs k in
    stops_as c.in-Err.stop (at s n) _ _
    (c.loop-further.invariant.comes knowing w s
    ∙ ap (λ zs. collect knowing w d (waiting c.loop-further.count (env_of p)) (expressions_view zs) (at s p) (received knowing w d c.args.callee)) e
    ∙ ap (λ o. on_value o (λ v u. collect knowing w d (waiting c.loop-further.count (env_of p) ++ v ∷ []) (expressions_view ys) u (received knowing w d c.args.callee))) (to_Plain knowing w d (at s p) x c.in-Plain.plain c.in-Plain.is))
    (g knowing w s (λ v u. collect knowing w d (waiting c.loop-further.count (env_of p) ++ v ∷ []) (expressions_view ys) u (received knowing w d c.args.callee))))

pub pass-returns-in-Full-clause-finds : goal.pass-returns-in-Full-clause-finds
pass-returns-in-Full-clause-finds t c =
    let fs = c.args.functions.now in
    let m = c.args.self.now in
    let p = c.loop-further.self in
    let d = here (env_of p) p.line in
    let xs = c.args.steps.now in
    let es = c.loop-further.further.now in
    let x = c.first-item.result in
    let ys = take (length es - 1) (drop 1 es) in
    let e : es ≡ x ∷ ys = front_is es x c.in-len1-up.len_at_least c.first-item.is in
    finds_from fs m p c.call_for.new.self (taken c.args.count (env_of m)) m.line (behind_by (here (env_of m) m.line) xs) (passing c.args.callee c.args.arguments.now c.args.count m)
    (λ knowing w t. on_value (eval knowing w d (expression_view x) t) (λ v u. collect knowing w d (waiting c.loop-further.count (env_of p) ++ v ∷ []) (expressions_view ys) u (received knowing w d c.args.callee)))
    (found_view c.waits-in-Full.result) c.waits-in-Full.new.left c.loop-further.invariant.frames (omega (arith, c.loop-further.invariant.turns))
    (λ knowing fits k s l. let w = tasks knowing fs k in c.loop-further.invariant.comes knowing w s
    ∙ ap (λ zs. collect knowing w d (waiting c.loop-further.count (env_of p)) (expressions_view zs) (at s p) (received knowing w d c.args.callee)) e)
    (finds_at fs p c.call_for.new.self (taken c.loop-further.count (env_of p)) (taken c.args.count (env_of m)) p.line m.line xs
    (λ knowing w t. on_value (eval knowing w d (expression_view x) t) (λ v u. collect knowing w d (waiting c.loop-further.count (env_of p) ++ v ∷ []) (expressions_view ys) u (received knowing w d c.args.callee)))
    (found_view c.waits-in-Full.result) c.waits-in-Full.new.left c.loop-further.invariant.env c.loop-further.invariant.same_line
    (finds_left fs p c.call_for.new.self (taken c.loop-further.count (env_of p)) p.line (behind_by d xs) (λ knowing w t. on_value (eval knowing w d (expression_view x) t) (λ v u. collect knowing w d (waiting c.loop-further.count (env_of p) ++ v ∷ []) (expressions_view ys) u (received knowing w d c.args.callee)))
    (found_view c.waits-in-Full.result) c.waits-in-Full.new.left c.call_for.result c.waits-in-Full.ensures.none c.waits-in-Full.ensures.left (c.call_for.ensures.goes fs)))

pub pass-returns-clause-finds : goal.pass-returns-clause-finds
pass-returns-clause-finds t c =
    let fs = c.args.functions.now in
    let m = c.args.self.now in
    let p = c.loop-further.self in
    let d = here (env_of p) p.line in
    let xs = c.args.steps.now in
    let vs = waiting c.loop-further.count (env_of p) in
    finds_from fs m p c.receive.new.self (taken c.args.count (env_of m)) m.line (behind_by (here (env_of m) m.line) xs) (passing c.args.callee c.args.arguments.now c.args.count m)
    (λ knowing w t. received knowing w d c.args.callee vs t) (found_view c.receive.result) c.receive.new.left c.loop-further.invariant.frames (omega (arith, c.loop-further.invariant.turns))
    (λ knowing fits k s l. let w = tasks knowing fs k in c.loop-further.invariant.comes knowing w s
    ∙ ap (λ es. collect knowing w d vs (expressions_view es) (at s p) (received knowing w d c.args.callee)) (none_left c.loop-further.further.now c.in_default.len_below))
    (finds_at fs p c.receive.new.self (taken c.loop-further.count (env_of p)) (taken c.args.count (env_of m)) p.line m.line xs (λ knowing w t. received knowing w d c.args.callee vs t) (found_view c.receive.result) c.receive.new.left
    c.loop-further.invariant.env c.loop-further.invariant.same_line c.receive.ensures.finds)

pub pass-returns-in-Err-clause-nears : goal.pass-returns-in-Err-clause-nears
pass-returns-in-Err-clause-nears t c = near_stop c.args.self.now.turns (found_view c.waits.result) c.waits.new.left c.keep.new.self _ c.in-Err.stop c.waits.ensures.none c.waits.ensures.left

pub pass-returns-in-Full-clause-nears : goal.pass-returns-in-Full-clause-nears
pass-returns-in-Full-clause-nears t c =
    near_none c.args.self.now.turns (found_view c.waits-in-Full.result) c.waits-in-Full.new.left c.call_for.new.self _ c.waits-in-Full.ensures.none
    (omega (arith, ap (λ r. remaining c.args.self.now.turns r c.call_for.new.self) c.waits-in-Full.ensures.left, c.call_for.ensures.nears, ap (λ t. remaining t c.call_for.result c.call_for.new.self) c.loop-further.invariant.turns, ap frames_weight c.loop-further.invariant.frames, c.loop-further.invariant.lighter, front_expressions c.loop-further.further.now c.first-item.result c.in-len1-up.len_at_least c.first-item.is))

pub pass-returns-clause-nears : goal.pass-returns-clause-nears
pass-returns-clause-nears t c =
    leaves_as c.args.self.now.turns c.loop-further.self.turns _ _ (found_view c.receive.result) c.receive.new.left c.receive.new.self (omega (arith, c.loop-further.invariant.turns)) (omega (arith, ap frames_weight c.loop-further.invariant.frames)) c.receive.ensures.nears

pub receive-returns-in-Function-clause-finds : goal.receive-returns-in-Function-clause-finds
receive-returns-in-Function-clause-finds t c =
    let fs = c.args.functions.now in
    let m = c.args.self.now in
    let d = here (env_of m) m.line in
    let vs = waiting c.args.count (env_of m) in
    finds_as fs m c.call.new.self (taken c.args.count (env_of m)) m.line (behind_by d c.args.steps.now) (λ knowing w t. received knowing w d c.args.callee vs t)
    (λ knowing w t. received knowing w d (callee.Function c.in-Function.number c.in-Function.used) vs t) (found_view c.call.result) c.call.new.left
    (λ knowing w t. ap (λ f. received knowing w d f vs t) c.in-Function.is)
    c.call.ensures.finds

pub receive-returns-in-Known-clause-finds : goal.receive-returns-in-Known-clause-finds
receive-returns-in-Known-clause-finds t c =
    let fs = c.args.functions.now in
    let m = c.args.self.now in
    let d = here (env_of m) m.line in
    let vs = waiting c.args.count (env_of m) in
    finds_as fs m c.know.new.self (taken c.args.count (env_of m)) m.line (behind_by d c.args.steps.now) (λ knowing w t. received knowing w d c.args.callee vs t)
    (λ knowing w t. done_there m.line.0 (effect_of (known_view c.in-Known.known.now) t.memory vs) t) (found_view c.know.result) c.know.new.left
    (λ knowing w t. ap (λ f. received knowing w d f vs t) c.in-Known.is)
    (c.know.ensures.finds fs)

pub receive-returns-in-Library-clause-finds : goal.receive-returns-in-Library-clause-finds
receive-returns-in-Library-clause-finds t c =
    let fs = c.args.functions.now in
    let m = c.args.self.now in
    let d = here (env_of m) m.line in
    let xs = c.args.steps.now in
    let vs = waiting c.args.count (env_of m) in
    finds_left fs m c.call_library.new.self (taken c.args.count (env_of m)) m.line (behind_by d xs) (λ knowing w t. received knowing w d c.args.callee vs t) (found_view c.waits.result) c.waits.new.left c.call_library.result c.waits.ensures.none c.waits.ensures.left
    (goes_as fs m c.call_library.new.self (taken c.args.count (env_of m)) c.call_library.result
    (λ knowing w t. behind_by d xs knowing w (received knowing w d c.args.callee vs t))
    (λ knowing w t. behind_by d xs knowing w (without_answer (knowing w d (library c.in-Library.number vs) t)))
    (λ knowing w t. ap (λ f. behind_by d xs knowing w (received knowing w d f vs t)) c.in-Library.is)
    (c.call_library.ensures.goes fs))

pub receive-returns-in-Object-clause-finds : goal.receive-returns-in-Object-clause-finds
receive-returns-in-Object-clause-finds t c =
    let fs = c.args.functions.now in
    let m = c.args.self.now in
    let d = here (env_of m) m.line in
    let xs = c.args.steps.now in
    let vs = waiting c.args.count (env_of m) in
    finds_left fs m c.fill.new.self (taken c.args.count (env_of m)) m.line (behind_by d xs) (λ knowing w t. received knowing w d c.args.callee vs t) (found_view c.waits-in-Object.result) c.waits-in-Object.new.left c.fill.result c.waits-in-Object.ensures.none c.waits-in-Object.ensures.left
    (goes_as fs m c.fill.new.self (taken c.args.count (env_of m)) c.fill.result
    (λ knowing w t. behind_by d xs knowing w (received knowing w d c.args.callee vs t))
    (λ knowing w t. on t)
    (λ knowing w t. ap (λ f. behind_by d xs knowing w (received knowing w d f vs t)) c.in-Object.is ∙ followed_led knowing w d (map full_step_view xs) flow.On t)
    (c.fill.ensures.goes fs))

pub receive-returns-in-Function-clause-nears : goal.receive-returns-in-Function-clause-nears
receive-returns-in-Function-clause-nears t c = leaves_as c.args.self.now.turns c.args.self.now.turns _ _ (found_view c.call.result) c.call.new.left c.call.new.self (omega arith) (omega arith) c.call.ensures.nears

pub receive-returns-in-Library-clause-nears : goal.receive-returns-in-Library-clause-nears
receive-returns-in-Library-clause-nears t c =
    near_none c.args.self.now.turns (found_view c.waits.result) c.waits.new.left c.call_library.new.self _ c.waits.ensures.none (omega (arith, ap (λ r. remaining c.args.self.now.turns r c.call_library.new.self) c.waits.ensures.left, c.call_library.ensures.nears))

pub receive-returns-in-Object-clause-nears : goal.receive-returns-in-Object-clause-nears
receive-returns-in-Object-clause-nears t c =
    near_none c.args.self.now.turns (found_view c.waits-in-Object.result) c.waits-in-Object.new.left c.fill.new.self _ c.waits-in-Object.ensures.none (omega (arith, ap (λ r. remaining c.args.self.now.turns r c.fill.new.self) c.waits-in-Object.ensures.left, c.fill.ensures.nears))

pub right-returns-in-Plain-clause-finds : goal.right-returns-in-Plain-clause-finds
right-returns-in-Plain-clause-finds t c =
    let fs = c.args.functions.now in
    let m = c.args.self.now in
    let d = here (env_of m) m.line in
    let xs = c.args.rest.now in
    let k = both_on m.line.0 c.args.step.now (word_view c.args.value) (word_view c.args.old) in
    finds_as fs m c.at_first.new.self (env_of m) m.line (λ knowing w o. behind_by d xs knowing w (on_value o k)) (λ knowing w t. eval knowing w d (expression_view c.args.right.now) t) (λ knowing w t. eval knowing w d (plain_view c.in-Plain.plain) t) (found_view c.at_first.result) c.at_first.new.left
    (λ knowing w t. to_Plain knowing w d t c.args.right.now c.in-Plain.plain c.in-Plain.is)
    (alone_finds fs m c.at_first.new.self (λ knowing w o. behind_by d xs knowing w (on_value o k)) (λ knowing w t. eval knowing w d (plain_view c.in-Plain.plain) t) (found_view c.at_first.result) c.at_first.new.left (λ knowing w e s. followed_over knowing w d (map full_step_view xs) e s) c.at_first.ensures.finds)

pub right-returns-in-Err-clause-finds : goal.right-returns-in-Err-clause-finds
right-returns-in-Err-clause-finds t c =
    let fs = c.args.functions.now in
    let m = c.args.self.now in
    let d = here (env_of m) m.line in
    let xs = c.args.rest.now in
    let k = both_on m.line.0 c.args.step.now (word_view c.args.value) (word_view c.args.old) in
    finds_stop fs m (record m { frames = c.push.new.self }) (env_of m) m.line (λ knowing w o. behind_by d xs knowing w (on_value o k)) (λ knowing w t. eval knowing w d (expression_view c.args.right.now) t) (found_view c.waits.result) c.waits.new.left stop.OutOfMemory (λ knowing w e s. followed_over knowing w d (map full_step_view xs) e s) c.waits.ensures.none c.waits.ensures.left (λ knowing fits k s l. tt)

pub right-returns-in-Some-clause-finds : goal.right-returns-in-Some-clause-finds
right-returns-in-Some-clause-finds t c =
    let fs = c.args.functions.now in
    let m = c.args.self.now in
    let p = record m { frames = c.push.new.self } in
    let n = c.begun.new.self in
    let d = here (env_of m) m.line in
    let xs = c.args.rest.now in
    let k = both_on m.line.0 c.args.step.now (word_view c.args.value) (word_view c.args.old) in
    let h = (out-Full c.in-Full.full).head in
    let ys = c.as_slice.result.now in
    let a = finds_some fs p n (env_of p) p.line (behind_by d []) (λ knowing w t. eval knowing w d (head_view h) t) (found_view c.begun.result) c.begun.new.left c.in-Some.found (sym c.get.ensures ∙ c.in-Some.is) c.begun.ensures.finds in
    finds_value fs m (record n { frames = c.truncate.new.self }) (env_of m) m.line (λ knowing w o. behind_by d xs knowing w (on_value o k)) (λ knowing w t. eval knowing w d (expression_view c.args.right.now) t) (found_view c.value.result) c.begun.new.left c.in-Some.found c.value.ensures
    (record {
      frames = c.truncate.ensures ∙ taken_back m.frames p.frames n.frames (frame.Right m.line c.args.step c.args.value c.args.old c.args.rest) c.len-height.result c.len-height.ensures c.in-Ok.ensures.ok a.0.frames;
      env = a.0.env;
      same_line = a.0.same_line;
    })
    (λ knowing fits k s l. let w = tasks knowing fs k in
    to_Full knowing w d (at s m) c.args.right.now c.in-Full.full c.in-Full.is
    ∙ full_leads knowing w d (at s m) c.in-Full.full h ys refl c.as_slice.ensures
    ∙ ap (λ zs. behind_by d zs knowing w (eval knowing w d (head_view h) (at s m))) (none_left ys c.in-empty.len_below)
    ∙ a.1 knowing fits k s l)

pub right-returns-in-None-clause-finds : goal.right-returns-in-None-clause-finds
right-returns-in-None-clause-finds t c = λ knowing fits k s l.
    let fs = c.args.functions.now in
    let w = tasks knowing fs k in
    let m = c.args.self.now in
    let p = record m { frames = c.push.new.self } in
    let n = c.begun.new.self in
    let d = here (env_of m) m.line in
    let xs = c.args.rest.now in
    let g = both_on m.line.0 c.args.step.now (word_view c.args.value) (word_view c.args.old) in
    let h = (out-Full c.in-Full.full).head in
    let ys = c.as_slice.result.now in
    stands_by knowing w s n c.begun.new.left _ _
    (ap (λ o. resume knowing w (env_of m) (reverse m.frames) (behind_by d xs knowing w (on_value o g)))
    (to_Full knowing w d (at s m) c.args.right.now c.in-Full.full c.in-Full.is
    ∙ full_leads knowing w d (at s m) c.in-Full.full h ys refl c.as_slice.ensures
    ∙ ap (λ zs. behind_by d zs knowing w (eval knowing w d (head_view h) (at s m))) (none_left ys c.in-empty.len_below))
    ∙ pushed knowing w (env_of m) m.frames p.frames (frame.Right m.line c.args.step c.args.value c.args.old c.args.rest) (eval knowing w d (head_view h) (at s m)) c.in-Ok.ensures.ok)
    (finds_none fs p n (env_of p) p.line (behind_by d []) (λ knowing w t. eval knowing w d (head_view h) t) (found_view c.begun.result) c.begun.new.left (sym c.get.ensures ∙ c.in-None.is) c.begun.ensures.finds knowing fits k s l)

pub right-returns-in_default-clause-finds : goal.right-returns-in_default-clause-finds
right-returns-in_default-clause-finds t c =
    let fs = c.args.functions.now in
    let m = c.args.self.now in
    let p = record m { frames = c.push.new.self } in
    let d = here (env_of m) m.line in
    let xs = c.args.rest.now in
    let g = both_on m.line.0 c.args.step.now (word_view c.args.value) (word_view c.args.old) in
    finds_left fs m p (env_of m) m.line (λ knowing w o. behind_by d xs knowing w (on_value o g)) (λ knowing w t. eval knowing w d (expression_view c.args.right.now) t) (found_view c.waits-in_default.result) c.waits-in_default.new.left (Ok (focus.Evaluates c.args.right)) c.waits-in_default.ensures.none c.waits-in_default.ensures.left
    (λ knowing fits k s l. let w = tasks knowing fs k in
    pushed knowing w (env_of m) m.frames p.frames (frame.Right m.line c.args.step c.args.value c.args.old c.args.rest) (eval knowing w d (expression_view c.args.right.now) (at s m)) c.in-Ok.ensures.ok)

pub right-returns-in-Plain-clause-nears : goal.right-returns-in-Plain-clause-nears
right-returns-in-Plain-clause-nears t c = alone_near c.args.self.now.turns _ c.args.self.now c.at_first.new.self (λ knowing w t. eval knowing w (here (env_of c.args.self.now) c.args.self.now.line) (plain_view c.in-Plain.plain) t) (found_view c.at_first.result) c.at_first.new.left c.at_first.ensures.finds

pub right-returns-in-Err-clause-nears : goal.right-returns-in-Err-clause-nears
right-returns-in-Err-clause-nears t c = near_stop c.args.self.now.turns (found_view c.waits.result) c.waits.new.left (record c.args.self.now { frames = c.push.new.self }) _ stop.OutOfMemory c.waits.ensures.none c.waits.ensures.left

pub right-returns-in-Some-clause-nears : goal.right-returns-in-Some-clause-nears
right-returns-in-Some-clause-nears t c = near_value c.args.self.now.turns (found_view c.value.result) c.begun.new.left (record c.begun.new.self { frames = c.truncate.new.self }) _ c.in-Some.found c.value.ensures

pub right-returns-in-None-clause-nears : goal.right-returns-in-None-clause-nears
right-returns-in-None-clause-nears t c =
    omega (
      arith,
      near_left c.args.self.now.turns (found_view c.begun.result) c.begun.new.left c.begun.new.self _ (sym c.get.ensures ∙ c.in-None.is) c.begun.ensures.nears,
      ap frames_weight c.in-Ok.ensures.ok,
      pushed_weight c.args.self.now.frames (frame.Right c.args.self.now.line c.args.step c.args.value c.args.old c.args.rest),
      ap expression_weight c.in-Full.is,
      weight-Full c.in-Full.full,
      weight-full c.in-Full.full,
    )

pub right-returns-in_default-clause-nears : goal.right-returns-in_default-clause-nears
right-returns-in_default-clause-nears t c =
    let m = c.args.self.now in
    let p = record m { frames = c.push.new.self } in
    near_none m.turns (found_view c.waits-in_default.result) c.waits-in_default.new.left p (2 + frames_weight m.frames + expression_weight c.args.right.now + steps_weight c.args.rest.now) c.waits-in_default.ensures.none
    (subst (λ r. remaining m.turns r p ≤ 2 + frames_weight m.frames + expression_weight c.args.right.now + steps_weight c.args.rest.now) (sym c.waits-in_default.ensures.left)
    (pushes m.turns (2 + frames_weight m.frames + expression_weight c.args.right.now + steps_weight c.args.rest.now) m.frames (frame.Right m.line c.args.step c.args.value c.args.old c.args.rest) (focus.Evaluates c.args.right) p c.in-Ok.ensures.ok (omega arith)))

pub start-returns-in-Some-clause-finds : goal.start-returns-in-Some-clause-finds
start-returns-in-Some-clause-finds t c =
    let fs = c.args.functions.now in
    let m = c.args.self.now in
    let d = here (env_of m) m.line in
    let vs = waiting c.args.count (env_of m) in
    finds_as fs m c.begin.new.self (taken c.args.count (env_of m)) m.line (behind_by d c.args.steps.now)
    (λ knowing w t. answered m.line.0 c.args.used (called knowing w m.line.0 (slice_get (map function_view c.args.functions.now) c.args.number) vs t))
    (λ knowing w t. answered m.line.0 c.args.used (called knowing w m.line.0 (Some (function_view c.in-Some.function.now)) vs t)) (found_view c.begin.result) c.begin.new.left
    (λ knowing w t. ap (λ f. answered m.line.0 c.args.used (called knowing w m.line.0 f vs t)) (sym c.in-Some.ensures))
    (c.begin.ensures.finds)

pub start-returns-in-None-clause-finds : goal.start-returns-in-None-clause-finds
start-returns-in-None-clause-finds t c =
    let fs = c.args.functions.now in
    let m = c.args.self.now in
    let d = here (env_of m) m.line in
    let vs = waiting c.args.count (env_of m) in
    finds_stop fs m m (taken c.args.count (env_of m)) m.line (behind_by d c.args.steps.now)
    (λ knowing w t. answered m.line.0 c.args.used (called knowing w m.line.0 (slice_get (map function_view c.args.functions.now) c.args.number) vs t)) (found_view c.waits.result) c.waits.new.left (stop.Over ends.Stuck)
    (λ knowing w e s. followed_over knowing w d (map full_step_view c.args.steps.now) e s) c.waits.ensures.none c.waits.ensures.left
    (λ knowing fits k s l. ap (λ f. answered m.line.0 c.args.used (called knowing (tasks knowing fs k) m.line.0 f vs (at s m))) (sym c.in-None.ensures))

pub value_of-returns-in-Some-clause-finds : goal.value_of-returns-in-Some-clause-finds
value_of-returns-in-Some-clause-finds t c =
    let fs = c.args.functions.now in
    let m = c.args.self.now in
    let n = c.begun.new.self in
    let d = here (env_of m) m.line in
    let xs = c.as_slice-steps.result.now in
    let h = (out-Full c.args.full.now).head in
    let a = finds_some fs m n (env_of m) m.line (behind_by d xs) (λ knowing w t. eval knowing w d (head_view h) t) (found_view c.begun.result) c.begun.new.left c.in-Some.value (sym c.get.ensures ∙ c.in-Some.is) c.begun.ensures.finds in
    finds_after fs m n c.follow.new.self (env_of m) m.line (λ knowing w o. o) (λ knowing w t. eval knowing w d (full_view c.args.full.now) t)
    (λ knowing w t. behind_by (here (env_of n) n.line) xs knowing w (value (word_view c.in-Some.value) t)) (found_view c.follow.result) c.follow.new.left a.0 c.begun.ensures.turns
    (λ knowing fits k s l. let w = tasks knowing fs k in
    full_leads knowing w d (at s m) c.args.full.now h xs refl c.as_slice-steps.ensures
    ∙ (λ i. behind_by (here (sym a.0.env i) (sym a.0.same_line i)) xs knowing w (a.1 knowing fits k s l i)))
    c.follow.ensures.finds

pub value_of-returns-in-None-clause-finds : goal.value_of-returns-in-None-clause-finds
value_of-returns-in-None-clause-finds t c =
    let fs = c.args.functions.now in
    let m = c.args.self.now in
    let d = here (env_of m) m.line in
    let xs = c.as_slice-steps.result.now in
    let h = (out-Full c.args.full.now).head in
    goes_as fs m c.begun.new.self (env_of m) c.begun.new.left (λ knowing w t. eval knowing w d (full_view c.args.full.now) t) (λ knowing w t. behind_by d xs knowing w (eval knowing w d (head_view h) t))
    (λ knowing w t. full_leads knowing w d t c.args.full.now h xs refl c.as_slice-steps.ensures)
    (finds_none fs m c.begun.new.self (env_of m) m.line (behind_by d xs) (λ knowing w t. eval knowing w d (head_view h) t) (found_view c.begun.result) c.begun.new.left (sym c.get.ensures ∙ c.in-None.is) c.begun.ensures.finds)

pub value_of-returns-in-Some-clause-nears : goal.value_of-returns-in-Some-clause-nears
value_of-returns-in-Some-clause-nears t c =
    let fs = c.args.functions.now in
    let m = c.args.self.now in
    let d = here (env_of m) m.line in
    let xs = c.as_slice-steps.result.now in
    let h = (out-Full c.args.full.now).head in
    let a = finds_some fs m c.begun.new.self (env_of m) m.line (behind_by d xs) (λ knowing w t. eval knowing w d (head_view h) t) (found_view c.begun.result) c.begun.new.left c.in-Some.value (sym c.get.ensures ∙ c.in-Some.is) c.begun.ensures.finds in
    leaves_as c.args.self.now.turns c.begun.new.self.turns _ _ (found_view c.follow.result) c.follow.new.left c.follow.new.self c.begun.ensures.turns
    (omega (arith, ap frames_weight a.0.frames, weight-full c.args.full.now, ap steps_weight c.as_slice-steps.ensures)) c.follow.ensures.nears

pub value_of-returns-in-None-clause-nears : goal.value_of-returns-in-None-clause-nears
value_of-returns-in-None-clause-nears t c =
    omega (arith, near_left c.args.self.now.turns (found_view c.begun.result) c.begun.new.left c.begun.new.self _ (sym c.get.ensures ∙ c.in-None.is) c.begun.ensures.nears, weight-full c.args.full.now, ap steps_weight c.as_slice-steps.ensures)
