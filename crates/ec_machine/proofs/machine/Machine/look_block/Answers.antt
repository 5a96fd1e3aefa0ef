use Rattle.std.proofs.Common.{arith, map, ap}
use Rattle.std.specs.Prelude.{reverse}
use Rattle.ec_code.specs.Marks.{mark_view}
use Rattle.ec_code.specs.Views.{size_view, statements_view}
use Rattle.ec_meaning_defs.specs.evaluation.Execute.{enter, look_all}
use Rattle.ec_machine.specs.Frames.{here}
use Rattle.ec_machine.specs.Goes.{at, env_of, tasks}
use Rattle.ec_machine.proofs.Moves.{lifted, stands_by}
use Rattle.ec_machine.specs.Weights.{remaining}
use Rattle.ec_machine.proofs.Weighing.{err_near}
use Rattle.ec_machine.proofs.machine.Machine.look_block.Goals as goal

pub returns-in-Ok-clause-goes : goal.returns-in-Ok-clause-goes
returns-in-Ok-clause-goes c = λ fs knowing fits k s l.
    stands_by knowing (tasks knowing fs k) s c.look_list.new.self c.look_list.result _ _
    (c.in-Ok.ensures.enters knowing (tasks knowing fs k) s (λ d u. look_all knowing (tasks knowing fs k) (mark_view c.args.label) d (statements_view c.args.body.now) u))
    (c.look_list.ensures.goes fs knowing fits k s (omega (arith, l, c.in-Ok.ensures.turns)))

pub returns-in-Err-clause-goes : goal.returns-in-Err-clause-goes
returns-in-Err-clause-goes c = λ fs knowing fits k s l.
    let m = c.args.self.now in
    lifted knowing (tasks knowing fs k) (env_of m) (reverse m.frames) (at s c.enter.new.self) c.in-Err.stop
    (enter (tasks knowing fs k) (here (env_of m) m.line) (map size_view c.args.sizes.now) (statements_view c.args.body.now) (λ d u. look_all knowing (tasks knowing fs k) (mark_view c.args.label) d (statements_view c.args.body.now) u) (at s m))
    (c.in-Err.ensures.enters knowing (tasks knowing fs k) s (λ d u. look_all knowing (tasks knowing fs k) (mark_view c.args.label) d (statements_view c.args.body.now) u))

pub returns-in-Ok-clause-nears : goal.returns-in-Ok-clause-nears
returns-in-Ok-clause-nears c = omega (arith, c.look_list.ensures.nears, ap (λ t. remaining t c.look_list.result c.look_list.new.self) c.in-Ok.ensures.turns, c.in-Ok.ensures.frames)

pub returns-in-Err-clause-nears : goal.returns-in-Err-clause-nears
returns-in-Err-clause-nears c = err_near _ _ _ _
