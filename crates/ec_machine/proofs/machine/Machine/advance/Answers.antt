use Rattle.ec_machine.proofs.Parts.{focus_as}
use Rattle.ec_machine.specs.declared.frame.Focus.TheVariants as focus
use Rattle.std.proofs.Common.{arith, ap, subst, sym}
use Rattle.ec_machine.specs.Weights.{focus_weight, IsOutside}
use Rattle.ec_machine.proofs.machine.Machine.advance.Goals as goal

pub returns-in-Runs-clause-goes : goal.returns-in-Runs-clause-goes
returns-in-Runs-clause-goes c =
    focus_as c.args.functions.now c.args.self.now c.run.new.self c.args.focus (focus.Runs c.in-Runs.statement) c.run.result c.in-Runs.is c.run.ensures.goes

pub returns-in-Looks-clause-goes : goal.returns-in-Looks-clause-goes
returns-in-Looks-clause-goes c =
    focus_as c.args.functions.now c.args.self.now c.look.new.self c.args.focus (focus.Looks c.in-Looks.label c.in-Looks.statement) c.look.result c.in-Looks.is (c.look.ensures.goes c.args.functions.now)

pub returns-in-Evaluates-clause-goes : goal.returns-in-Evaluates-clause-goes
returns-in-Evaluates-clause-goes c =
    focus_as c.args.functions.now c.args.self.now c.evaluate.new.self c.args.focus (focus.Evaluates c.in-Evaluates.expression) c.evaluate.result c.in-Evaluates.is c.evaluate.ensures.goes

pub returns-in-Value-clause-goes : goal.returns-in-Value-clause-goes
returns-in-Value-clause-goes c =
    focus_as c.args.functions.now c.args.self.now c.hand_value.new.self c.args.focus (focus.Value c.in-Value.value) c.hand_value.result c.in-Value.is c.hand_value.ensures.goes

pub returns-in-Leads-clause-goes : goal.returns-in-Leads-clause-goes
returns-in-Leads-clause-goes c =
    focus_as c.args.functions.now c.args.self.now c.hand_flow.new.self c.args.focus (focus.Leads c.in-Leads.flow) c.hand_flow.result c.in-Leads.is c.hand_flow.ensures.goes

pub returns-in-Runs-clause-nears : goal.returns-in-Runs-clause-nears
returns-in-Runs-clause-nears c = λ _. omega (arith, c.run.ensures.nears, ap (λ f. focus_weight f c.args.self.now.frames) c.in-Runs.is)

pub returns-in-Looks-clause-nears : goal.returns-in-Looks-clause-nears
returns-in-Looks-clause-nears c = λ _. omega (arith, c.look.ensures.nears, ap (λ f. focus_weight f c.args.self.now.frames) c.in-Looks.is)

pub returns-in-Evaluates-clause-nears : goal.returns-in-Evaluates-clause-nears
returns-in-Evaluates-clause-nears c = λ _. omega (arith, c.evaluate.ensures.nears, ap (λ f. focus_weight f c.args.self.now.frames) c.in-Evaluates.is)

pub returns-in-Value-clause-nears : goal.returns-in-Value-clause-nears
returns-in-Value-clause-nears c = λ _. omega (arith, c.hand_value.ensures.nears, ap (λ f. focus_weight f c.args.self.now.frames) c.in-Value.is)

pub returns-in-Leads-clause-nears : goal.returns-in-Leads-clause-nears
returns-in-Leads-clause-nears c = λ _. omega (arith, c.hand_flow.ensures.nears, ap (λ f. focus_weight f c.args.self.now.frames) c.in-Leads.is)

pub returns-in-Puts-clause-nears : goal.returns-in-Puts-clause-nears
returns-in-Puts-clause-nears c = λ p. absurd (p (subst IsOutside (sym c.in-Puts.is) tt))

pub returns-in-Calls-clause-nears : goal.returns-in-Calls-clause-nears
returns-in-Calls-clause-nears c = λ p. absurd (p (subst IsOutside (sym c.in-Calls.is) tt))
