use Rattle.std.proofs.Common.{◌∙◌, refl, sym, arith, Ok}
use Rattle.ec_meaning_defs.specs.evaluation.Results.{on, on_value}
use Rattle.ec_machine.proofs.Weighing.{err_near, nearer}
use Rattle.ec_plain.specs.Outcomes.{outcome_view}
use Rattle.ec_machine.specs.declared.frame.Flow.TheVariants as flow
use Rattle.ec_machine.specs.declared.frame.Focus.TheVariants as focus
use Rattle.ec_machine.specs.Goes.{env_of}
use Rattle.ec_machine.proofs.Plainly.{evaluated, unevaluated}
use Rattle.ec_machine.proofs.machine.Machine.effect_at_once.Goals as goal

pub returns-in-Ok-clause-goes : goal.returns-in-Ok-clause-goes
returns-in-Ok-clause-goes c = λ fs.
    let m = c.args.self.now in
    evaluated fs m c.evaluate.new.store (record m { store = c.evaluate.new.store }) (env_of m) c.args.plain.now c.objects.result.now (outcome_view c.evaluate.result)
    (λ knowing w o. on_value o (λ v u. on u))
    c.objects.ensures c.evaluate.ensures c.in-Ok.field-0 (Ok (focus.Leads flow.On)) (sym c.get.ensures ∙ c.in-Ok.is) (λ knowing fits k s l. refl)

pub returns-in-Err-clause-goes : goal.returns-in-Err-clause-goes
returns-in-Err-clause-goes c = λ fs.
    let m = c.args.self.now in
    unevaluated fs m c.evaluate.new.store m (env_of m) c.args.plain.now c.objects.result.now (outcome_view c.evaluate.result)
    (λ knowing w o. on_value o (λ v u. on u))
    c.objects.ensures c.evaluate.ensures c.in-Err.why c.stopped.result (sym c.get.ensures ∙ c.in-Err.is) c.stopped.ensures (λ knowing w y t. refl)

pub returns-in-Ok-clause-nears : goal.returns-in-Ok-clause-nears
returns-in-Ok-clause-nears c = nearer _ _ _ _ (omega arith)

pub returns-in-Err-clause-nears : goal.returns-in-Err-clause-nears
returns-in-Err-clause-nears c = err_near _ _ _ _
