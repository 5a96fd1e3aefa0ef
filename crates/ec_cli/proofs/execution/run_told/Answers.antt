use Rattle.std.proofs.Common.{◌≡◌, ◌∙◌, ◌-◌, ap, length}
use Rattle.ec_execution_defs.specs.Programs.{meaning}
use Rattle.ec_execute.specs.Executables.{executable_view}
use Rattle.ec_link.specs.Rack.{log_of}
use Rattle.ec_cli.specs.Answers.{grown}
use Rattle.ec_cli.specs.Executing.{meaning_over}
use Rattle.ec_cli.proofs.Reports.{carries_told, how_many}
use Rattle.ec_cli.proofs.execution.run_told.Goals as goal

pub returns : goal.returns
returns g c =
    let was : c.len-before.result ≡ length (log_of c.args.rack.now) = c.len-before.ensures ∙ ap length c.log.ensures in
    let now : c.len.result ≡ length (log_of c.run_over-ending.new.rack) = c.len.ensures ∙ ap length c.log-2.ensures in
    carries_told _ _ _ _ _ _ _ (meaning_over (meaning (executable_view c.args.executable.now)) c.args.turns c.args.rack.now c.run_over-ending.new.rack) _ _ _ _ _ c.args.rack.now c.run_over-ending.new.rack
    (ap length c.requires.made)
    ((λ i. now i - was i) ∙ how_many (log_of c.args.rack.now) (grown c.args.rack.now c.run_over-ending.new.rack) (log_of c.run_over-ending.new.rack) c.run_over-ending.ensures.logged)
    c.run_over-ending.result c.report.result c.run_over-ending.ensures c.report.ensures
