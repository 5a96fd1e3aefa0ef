use Rattle.std.proofs.Common.{ap, arith}
use Rattle.std.specs.Prelude.{reverse}
use Rattle.ec_meaning_defs.specs.evaluation.Results.{turn, went}
use Rattle.ec_machine.specs.Frames.{resume}
use Rattle.ec_machine.specs.Goes.{at, env_of, tasks}
use Rattle.ec_machine.proofs.Moves.{lifted}
use Rattle.ec_machine.proofs.Weighing.{remaining_err, remaining_none}
use Rattle.ec_machine.proofs.machine.Machine.jump.Goals as goal

pub returns-in-Ok-clause-goes : goal.returns-in-Ok-clause-goes
returns-in-Ok-clause-goes c = λ fs knowing fits k s l.
    let m = c.args.self.now in
    ap (resume knowing (tasks knowing fs k) (env_of m) (reverse m.frames)) (c.in-Ok.ensures.turn (at s m) (λ u. went c.args.label u))

pub returns-in-Err-clause-goes : goal.returns-in-Err-clause-goes
returns-in-Err-clause-goes c = λ fs knowing fits k s l.
    let m = c.args.self.now in
    lifted knowing (tasks knowing fs k) (env_of m) (reverse m.frames) (at s (record m { turns = c.take_turn.new.turns })) c.in-Err.stop (turn (at s m) (λ u. went c.args.label u))
    (c.in-Err.ensures.turn (at s m) (λ u. went c.args.label u))

pub returns-in-Ok-clause-nears : goal.returns-in-Ok-clause-nears
returns-in-Ok-clause-nears c = remaining_none _ _ _ (omega (arith, c.in-Ok.ensures.taken))

pub returns-in-Err-clause-nears : goal.returns-in-Err-clause-nears
returns-in-Err-clause-nears c = remaining_err _ _ _
