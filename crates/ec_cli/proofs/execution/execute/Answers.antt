use Rattle.std.proofs.Common.{◌≡◌, true, refl, arith}
use Rattle.ec_cli.proofs.Executions.{executes, lacks}
use Rattle.ec_cli.proofs.execution.execute.Goals as goal

pub returns-in-Ok : goal.returns-in-Ok
returns-in-Ok g c = executes _ _ _ _ _ _ _ _ c.args.form c.args.turns _ _ _ _ _ _ _ _ c.execute_text.result c.in-Ok.text
    (λ crowd. (let full : c.is_crowded.result ≡ true = c.is_crowded.ensures.1 crowd in absurd (grind (arith, full, c.if-is_crowded.false))))
    c.in-Ok.ensures.ok c.execute_text.ensures

pub execute_text-requires-clause-room : goal.execute_text-requires-clause-room
execute_text-requires-clause-room g c =
    λ crowd. (let full : c.is_crowded.result ≡ true = c.is_crowded.ensures.1 crowd in absurd (grind (arith, full, c.if-is_crowded.false)))

pub returns-in-Err : goal.returns-in-Err
returns-in-Err g c = lacks _ _ _ _ _ _ _ _ c.args.form c.args.turns _ _ _ _ _ _ _ _ c.in-Err.ending
    (λ crowd. (let full : c.is_crowded.result ≡ true = c.is_crowded.ensures.1 crowd in absurd (grind (arith, full, c.if-is_crowded.false))))
    c.in-Err.ensures.err (record { output = refl; errors = refl; links = refl })
