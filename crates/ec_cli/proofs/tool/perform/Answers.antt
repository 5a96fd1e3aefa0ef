use Rattle.std.proofs.Common.{ap}
use Rattle.ec_cli.specs.Tasks.{HasTurns}
use Rattle.ec_cli.proofs.Tools.{has_run, wants}
use Rattle.ec_cli.proofs.tool.perform.Goals as goal

pub returns-in-Err-clause-does : goal.returns-in-Err-clause-does
returns-in-Err-clause-does g c =
    wants _ _ _ _ _ _ _ _ c.args.words.now c.args.input.now c.args.out.now c.args.err.now c.args.rack.now c.told-in-Err.result.ending (ap (λ p. p.ending) c.told-in-Err.ensures)

pub returns-in-Ok-Some-Run-clause-does : goal.returns-in-Ok-Some-Run-clause-does
returns-in-Ok-Some-Run-clause-does g c =
    let named : HasTurns c.args.words.now c.in-Ok-Some-Run.form c.in-Ok-Some-Run.turns = cc (c.in-Ok-Some-Run.ensures, c.in-Ok-Some-Run.field-0-is, c.in-Ok-Some-Run.field-0-0-is) in
    has_run _ _ _ _ _ _ _ _ c.args.words.now c.in-Ok-Some-Run.form c.in-Ok-Some-Run.turns _ _ _ _ _ _ c.args.rack.now c.execute.new.rack c.execute.result c.told_as.result.ending
    named (ap (λ p. p.ending) c.told_as.ensures) c.execute.ensures
