use Rattle.std.proofs.Common.{◌≡◌, ◌∙◌, ap, sym, map, refl, ℕ, List, [], true}
use Rattle.std.specs.Prelude.{reverse}
use Rattle.ec_code.specs.Views.{function_view, size_view, statements_view}
use Rattle.ec_meaning_defs.specs.evaluation.Execute.{body_run, in_function, run_all, settle}
use Rattle.ec_meaning_defs.specs.evaluation.Results.{Res, finished, made, on}
use Rattle.ec_meaning_defs.specs.evaluation.State.{State}
use Rattle.ec_plain.specs.Answered.{scope_view}
use Rattle.ec_machine.specs.declared.machine.Machine.{Machine}
use Rattle.ec_machine.specs.Frames.{last_of, objects_of, resume}
use Rattle.ec_machine.specs.Goes.{at, env_of, tasks}
use Rattle.ec_machine.proofs.Moves.{no_objects, pushed, pushed_first}
use Rattle.ec_machine.proofs.Objects.{no_room_stops}
use Rattle.ec_machine.proofs.Parts.{stops_through}
use Rattle.ec_machine.proofs.Turns.{stops_by}
use Rattle.ec_machine.proofs.machine.Machine.enter_main.Goals as goal

pub returns-in-Err-clause-stands : goal.returns-in-Err-clause-stands
returns-in-Err-clause-stands c = λ fs knowing fits k s l.
    let w = tasks knowing fs k in
    let m = c.args.self.now in
    let f = function_view c.args.main.now in
    let n : Machine = record m { store = c.make_objects.new.store; scope = c.make_objects.new.scope } in
    let next : List ℕ → State → Res = λ objects t. body_run knowing w (in_function 1 objects true) f t in
    let none : scope_view (objects_of m.scope) ≡ [] = ap (λ i. scope_view (last_of i m.scope.pointers)) c.requires.no_objects ∙ ap scope_view (no_objects m.scope.pointers) in
    let o : Res = made 1 (map size_view c.as_slice.result.now) (scope_view (objects_of m.scope)) (at s m) next in
    stops_through (finished f.otherwise) (λ e u. refl) c.no_room.result (at s n) (made 1 f.objects [] (at s m) next)
    (stops_by c.no_room.result (at s n) (made 1 f.objects [] (at s m) next) o
    (ap (λ os. made 1 f.objects os (at s m) next) (sym none)
    ∙ ap (λ xs. made 1 (map size_view xs) (scope_view (objects_of m.scope)) (at s m) next) (sym c.as_slice.ensures))
    (no_room_stops 1 c.in-Err.why c.no_room.result o (next (scope_view (objects_of n.scope)) (at s n)) (at s n) (c.in-Err.ensures.made 1 (record s { turns = m.turns }) next) c.no_room.ensures))

pub returns-clause-stands : goal.returns-clause-stands
returns-clause-stands c = λ fs knowing fits k s l.
    let w = tasks knowing fs k in
    let m = c.args.self.now in
    let f = function_view c.args.main.now in
    let sc = c.make_objects.new.scope in
    let n : Machine = record m { store = c.make_objects.new.store; scope = sc; first = true; otherwise = c.args.main.now.otherwise } in
    let d = in_function 1 (scope_view (objects_of sc)) true in
    let next : List ℕ → State → Res = λ objects t. body_run knowing w (in_function 1 objects true) f t in
    let none : scope_view (objects_of m.scope) ≡ [] = ap (λ i. scope_view (last_of i m.scope.pointers)) c.requires.no_objects ∙ ap scope_view (no_objects m.scope.pointers) in
    let b = c.as_slice-body.result in
    let o : Res = run_all knowing w d (statements_view b.now) (at s n) in
    ap (λ os. finished f.otherwise (made 1 f.objects os (at s m) next)) (sym none)
    ∙ ap (λ xs. finished f.otherwise (made 1 (map size_view xs) (scope_view (objects_of m.scope)) (at s m) next)) (sym c.as_slice.ensures)
    ∙ ap (finished f.otherwise) (c.in-Ok.ensures.made 1 (record s { turns = m.turns }) next)
    ∙ ap (λ z. finished f.otherwise (settle w d (statements_view z) (run_all knowing w d (statements_view z) (at s n)))) (sym c.as_slice-body.ensures)
    ∙ ap (λ z. resume knowing w (env_of n) (reverse z) o) (sym (pushed_first _ _ _ c.in_ok-push.ensures.ok c.requires.no_frames))
    ∙ pushed knowing w (env_of n) c.push.new.self c.push-2.new.self _ (on (at s n)) c.in_ok-push-2.ensures.ok
