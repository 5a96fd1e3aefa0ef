use Rattle.std.proofs.Common.{◌∙◌, ap, sym, map, ℕ, List, [], ◌∷◌, ◌++◌, arith}
use Rattle.std.specs.Prelude.{reverse}
use Rattle.ec_code.specs.Views.{size_view, statements_view}
use Rattle.ec_meaning_defs.specs.evaluation.Execute.{inside, settle}
use Rattle.ec_meaning_defs.specs.evaluation.Results.{Res, closing, made}
use Rattle.ec_meaning_defs.specs.evaluation.State.{State}
use Rattle.ec_memory_defs.specs.Memory.{last_number}
use Rattle.ec_plain.specs.Answered.{scope_view}
use Rattle.ec_machine.specs.declared.frame.Frame.TheVariants as frame
use Rattle.ec_machine.specs.declared.machine.Machine.{Machine}
use Rattle.ec_machine.specs.Frames.{here, objects_of, resume}
use Rattle.ec_machine.specs.Goes.{at, env_of}
use Rattle.ec_machine.proofs.Moves.{closed, entered}
use Rattle.ec_machine.proofs.Objects.{no_room_stops}
use Rattle.ec_machine.specs.Weights.{frames_weight}
use Rattle.ec_machine.proofs.Weighing.{pushed_weight}
use Rattle.ec_machine.proofs.machine.Machine.enter.Goals as goal

pub returns-in-Err-clause-enters : goal.returns-in-Err-clause-enters
returns-in-Err-clause-enters c = λ knowing w s go.
    let e = env_of c.args.self.now in
    let line = c.args.self.now.line in
    let d = here e line in
    let next : List ℕ → State → Res = λ objects t. settle w (inside d objects) (statements_view c.args.body.now) (go (inside d objects) t) in
    let m : Machine = record c.args.self.now { store = c.make_objects.new.store; scope = c.make_objects.new.scope } in
    let o : Res = made line.0 (map size_view c.args.sizes.now) (scope_view (objects_of c.args.self.now.scope)) (at s c.args.self.now) next in
    closed (last_number c.args.self.now.store) c.no_room.result (at s m) o
    (no_room_stops line.0 c.in-Err.why c.no_room.result o (next (scope_view (objects_of m.scope)) (at s m)) (at s m) (c.in-Err.ensures.made line.0 (record s { turns = c.args.self.now.turns }) next) c.no_room.ensures)

pub returns-clause-enters : goal.returns-clause-enters
returns-clause-enters c = λ knowing w s go.
    let e = env_of c.args.self.now in
    let line = c.args.self.now.line in
    let d = here e line in
    let fs = c.args.self.now.frames in
    let sc = c.make_objects.new.scope in
    let b = statements_view c.args.body.now in
    let m : Machine = record c.args.self.now { store = c.make_objects.new.store; scope = sc } in
    let o : Res = go (here (record e { scope = sc }) line) (at s m) in
    ap (λ o. resume knowing w e (reverse fs) (closing (last_number c.args.self.now.store) o)) (c.in-Ok.ensures.made line.0 (record s { turns = c.args.self.now.turns }) (λ objects t. settle w (inside d objects) b (go (inside d objects) t)))
    ∙ ap (λ n. resume knowing w e (reverse fs) (closing n (settle w (here (record e { scope = sc }) line) b o))) (sym c.mark-mark.ensures)
    ∙ entered knowing w e sc fs c.push.new.self c.push-2.new.self c.mark-mark.result line c.args.body o c.in-Ok.ensures.grown (c.in_ok-push.ensures.ok ∙ ap (λ h. fs ++ frame.Close c.mark-mark.result h e.scope.count ∷ []) c.len-height.ensures) c.in_ok-push-2.ensures.ok

pub returns-clause-frames : goal.returns-clause-frames
returns-clause-frames c = omega (arith, ap frames_weight c.in_ok-push-2.ensures.ok, pushed_weight c.push.new.self (frame.Settle c.args.self.now.line c.args.body), ap frames_weight c.in_ok-push.ensures.ok, pushed_weight c.args.self.now.frames (frame.Close c.mark-mark.result c.len-height.result c.args.self.now.scope.count))
