use Rattle.ec_execute.specs.Executables.{executable_view}
use Rattle.ec_cli.proofs.Executions.{carries_by}
use Rattle.ec_cli.proofs.execution.run_over.Goals as goal

pub returns : goal.returns
returns g c =
    carries_by _ _ _ _ _ _ (executable_view c.args.executable.now) c.args.turns _ _ _ _ c.args.rack.now c.run.new.rack c.run.result _ c.ended.ensures c.run.ensures
