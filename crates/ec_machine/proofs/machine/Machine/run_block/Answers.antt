use Rattle.std.proofs.Common.{arith, map, ap, refl, []}
use Rattle.std.specs.Prelude.{reverse}
use Rattle.ec_code.specs.Views.{size_view, statements_view}
use Rattle.ec_meaning_defs.specs.evaluation.Execute.{enter, run_all}
use Rattle.ec_machine.specs.Frames.{here}
use Rattle.ec_machine.specs.Goes.{at, env_of, tasks}
use Rattle.ec_machine.proofs.Moves.{lifted, stands_by}
use Rattle.ec_machine.proofs.Parts.{none_left}
use Rattle.ec_machine.proofs.Quickly.{came}
use Rattle.ec_machine.specs.Weights.{remaining}
use Rattle.ec_machine.proofs.Weighing.{err_near}
use Rattle.ec_machine.proofs.machine.Machine.run_block.Goals as goal

pub returns-in-Ok-clause-goes : goal.returns-in-Ok-clause-goes
returns-in-Ok-clause-goes c = λ knowing fits k s l.
    let fs = c.args.functions.now in
    stands_by knowing (tasks knowing fs k) s c.list.new.self c.list.result _ _
    (c.in-Ok.ensures.enters knowing (tasks knowing fs k) s (λ d u. run_all knowing (tasks knowing fs k) d (statements_view c.args.body.now) u))
    (c.list.ensures.goes knowing fits k s (omega (arith, l, c.in-Ok.ensures.turns)))

pub returns-in-Err-clause-goes : goal.returns-in-Err-clause-goes
returns-in-Err-clause-goes c = λ knowing fits k s l.
    let fs = c.args.functions.now in
    let m = c.args.self.now in
    lifted knowing (tasks knowing fs k) (env_of m) (reverse m.frames) (at s c.enter.new.self) c.in-Err.stop
    (enter (tasks knowing fs k) (here (env_of m) m.line) (map size_view c.args.sizes.now) (statements_view c.args.body.now) (λ d u. run_all knowing (tasks knowing fs k) d (statements_view c.args.body.now) u) (at s m))
    (c.in-Err.ensures.enters knowing (tasks knowing fs k) s (λ d u. run_all knowing (tasks knowing fs k) d (statements_view c.args.body.now) u))

pub returns-in-Ok-clause-nears : goal.returns-in-Ok-clause-nears
returns-in-Ok-clause-nears c = omega (arith, c.list.ensures.nears, ap (λ t. remaining t c.list.result c.list.new.self) c.in-Ok.ensures.turns, c.in-Ok.ensures.frames)

pub returns-in-Err-clause-nears : goal.returns-in-Err-clause-nears
returns-in-Err-clause-nears c = err_near _ _ _ _

pub returns-in-empty-clause-goes : goal.returns-in-empty-clause-goes
returns-in-empty-clause-goes c =
    let fs = c.args.functions.now in
    let m = c.args.self.now in
    let b = statements_view c.args.body.now in
    came fs m (env_of m) (λ knowing w t. enter w (here (env_of m) m.line) (map size_view c.args.sizes.now) b (λ d u. run_all knowing w d b u) t) m
    (λ knowing w t. enter w (here (env_of m) m.line) [] b (λ d u. run_all knowing w d b u) t) refl (omega arith)
    (λ knowing fits k s l. let w = tasks knowing fs k in
    ap (λ xs. enter w (here (env_of m) m.line) (map size_view xs) b (λ d u. run_all knowing w d b u) (at s m)) (none_left c.args.sizes.now c.in-empty.len_below))
    c.run_bare_block.result c.run_bare_block.new.self (c.run_bare_block.ensures.goes fs)
