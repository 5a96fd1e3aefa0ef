use Rattle.std.proofs.Common.{◌≡◌, subst, sym, refl, inr, Err}
use Rattle.ec_execute.specs.Executables.{executable_view}
use Rattle.ec_cli.specs.Executing.{RefusesText}
use Rattle.ec_cli.specs.Forms.{RunsText, TellsRun}
use Rattle.ec_cli.proofs.Executions.{refuses, text_carried}
use Rattle.ec_cli.proofs.execution.execute_text.Goals as goal

pub returns-in-Ok : goal.returns-in-Ok
returns-in-Ok g c =
    let text : c.as_slice.result.now ≡ c.args.text = cc (c.as_slice.ensures) in
    text_carried _ _ _ _ _ _ c.args.form c.args.text c.in-Ok.executable c.args.turns _ _ _ _ _ _ _ (subst (λ t. RunsText c.args.form t c.in-Ok.executable) text c.in-Ok.ensures) c.run_as.ensures.carried c.run_as.ensures.recorded (c.runs_are_replayed.ensures.programs (executable_view c.in-Ok.executable) c.args.turns).whole

pub returns : goal.returns
returns g c =
    let text : c.as_slice.result.now ≡ c.args.text = cc (c.as_slice.ensures) in
    let refused = refuses c.args.form c.args.text c.in-Err.stop (subst (λ t. TellsRun c.args.form t (Err c.in-Err.stop)) text c.in-Err.ensures) in
    inr (subst (RefusesText c.args.form c.args.text) (sym c.refused.ensures) refused, record { output = refl; errors = refl; links = refl })
