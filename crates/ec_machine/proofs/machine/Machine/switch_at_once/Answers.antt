use Rattle.std.proofs.Common.{◌∙◌, refl, sym, arith}
use Rattle.ec_code.specs.Views.{statement_view}
use Rattle.ec_meaning_defs.specs.evaluation.Results.{on_number, on_value}
use Rattle.ec_meaning_defs.specs.resolved.Resolved.{case}
use Rattle.ec_machine.specs.Frames.{here, selected}
use Rattle.ec_machine.proofs.Weighing.{err_near}
use Rattle.ec_plain.specs.Outcomes.{outcome_view}
use Rattle.ec_machine.specs.Goes.{env_of}
use Rattle.ec_machine.proofs.Plainly.{evaluated, unevaluated}
use Rattle.ec_machine.proofs.machine.Machine.switch_at_once.Goals as goal

pub returns-in-Ok-clause-goes : goal.returns-in-Ok-clause-goes
returns-in-Ok-clause-goes c = λ fs.
    let m = c.args.self.now in
    evaluated fs m c.evaluate.new.store c.select.new.self (env_of m) c.args.operand.now c.objects.result.now (outcome_view c.evaluate.result)
    (λ knowing w o. on_value o (λ v u. on_number v u (λ z. selected knowing w (here (env_of m) m.line) (statement_view c.args.body.now) (case z) u)))
    c.objects.ensures c.evaluate.ensures c.in-Ok.value c.select.result (sym c.get.ensures ∙ c.in-Ok.is) (c.select.ensures.goes fs)

pub returns-in-Err-clause-goes : goal.returns-in-Err-clause-goes
returns-in-Err-clause-goes c = λ fs.
    let m = c.args.self.now in
    unevaluated fs m c.evaluate.new.store m (env_of m) c.args.operand.now c.objects.result.now (outcome_view c.evaluate.result)
    (λ knowing w o. on_value o (λ v u. on_number v u (λ z. selected knowing w (here (env_of m) m.line) (statement_view c.args.body.now) (case z) u)))
    c.objects.ensures c.evaluate.ensures c.in-Err.why c.stopped.result (sym c.get.ensures ∙ c.in-Err.is) c.stopped.ensures (λ knowing w y t. refl)

pub returns-in-Ok-clause-nears : goal.returns-in-Ok-clause-nears
returns-in-Ok-clause-nears c = omega (arith, c.select.ensures.nears)

pub returns-in-Err-clause-nears : goal.returns-in-Err-clause-nears
returns-in-Err-clause-nears c = err_near _ _ _ _
