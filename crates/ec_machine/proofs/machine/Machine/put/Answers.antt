use Rattle.std.proofs.Common.{arith}
use Rattle.std.specs.Option.{option_map}
use Rattle.ec_meaning_defs.specs.evaluation.Results.{done_there}
use Rattle.ec_printf.specs.formats.Known.{channel_view}
use Rattle.ec_meaning_defs.specs.functions.Functions.{puts_bytes}
use Rattle.ec_values.specs.Words.{word_view}
use Rattle.ec_machine.specs.declared.frame.Frame.TheVariants as frame
use Rattle.ec_machine.specs.Goes.{at, env_of, tasks}
use Rattle.ec_machine.proofs.Moves.{pushed}
use Rattle.ec_machine.proofs.Weighing.{err_exit, pushes}
use Rattle.ec_machine.proofs.machine.Machine.put.Goals as goal

pub returns-clause-goes : goal.returns-clause-goes
returns-clause-goes c = λ fs knowing fits k s l.
    let m = c.args.self.now in
    pushed knowing (tasks knowing fs k) (env_of m) m.frames c.push.new.self (frame.Steps m.line c.args.steps)
    (done_there m.line.0 (puts_bytes (channel_view c.args.answer.channel) (option_map word_view c.args.answer.value) m.store m.text) (at s m)) c.in_ok-push.ensures.ok

pub returns-clause-nears : goal.returns-clause-nears
returns-clause-nears c = pushes _ _ _ _ _ _ c.in_ok-push.ensures.ok (omega arith)

pub returns-in_err-push-clause-nears : goal.returns-in_err-push-clause-nears
returns-in_err-push-clause-nears c = err_exit _ _ _ _ _ c.from_residual.ensures.1
