use Rattle.std.proofs.Common.{◌∙◌, refl, sym, arith, Some}
use Rattle.ec_meaning_defs.specs.evaluation.Results.{on_value, returned}
use Rattle.ec_values.specs.Words.{word_view}
use Rattle.ec_machine.specs.Goes.{tasks, env_of}
use Rattle.ec_machine.proofs.Moves.{returns_stand}
use Rattle.ec_machine.proofs.Weighing.{err_near}
use Rattle.ec_plain.specs.Outcomes.{outcome_view}
use Rattle.ec_machine.proofs.Plainly.{evaluated, unevaluated}
use Rattle.ec_machine.proofs.machine.Machine.give_at_once.Goals as goal

pub returns-in-Ok-clause-goes : goal.returns-in-Ok-clause-goes
returns-in-Ok-clause-goes c = λ fs.
    let m = c.args.self.now in
    evaluated fs m c.evaluate.new.store (record m { store = c.evaluate.new.store }) (env_of m) c.args.value.now c.objects.result.now (outcome_view c.evaluate.result)
    (λ knowing w o. on_value o (λ v u. returned m.first (Some v) u))
    c.objects.ensures c.evaluate.ensures c.in-Ok.found c.gives.result (sym c.get.ensures ∙ c.in-Ok.is) (λ knowing fits k s l. returns_stand knowing (tasks knowing fs k) s (record m { store = c.evaluate.new.store }) c.gives.result (λ t. returned m.first (Some (word_view c.in-Ok.found)) t) c.gives.ensures.gives)

pub returns-in-Err-clause-goes : goal.returns-in-Err-clause-goes
returns-in-Err-clause-goes c = λ fs.
    let m = c.args.self.now in
    unevaluated fs m c.evaluate.new.store m (env_of m) c.args.value.now c.objects.result.now (outcome_view c.evaluate.result)
    (λ knowing w o. on_value o (λ v u. returned m.first (Some v) u))
    c.objects.ensures c.evaluate.ensures c.in-Err.why c.stopped.result (sym c.get.ensures ∙ c.in-Err.is) c.stopped.ensures (λ knowing w y t. refl)

pub returns-in-Ok-clause-nears : goal.returns-in-Ok-clause-nears
returns-in-Ok-clause-nears c = omega (arith, c.gives.ensures.nears c.args.self.now.turns (record c.args.self.now { store = c.evaluate.new.store }))

pub returns-in-Err-clause-nears : goal.returns-in-Err-clause-nears
returns-in-Err-clause-nears c = err_near _ _ _ _
