use Rattle.std.proofs.Common.{◌∙◌, ap, map, arith, true, false}
use Rattle.std.specs.Prelude.{reverse}
use Rattle.std.specs.Option.{option_map}
use Rattle.ec_code.specs.Views.{expression_view, expressions_view, loop_view, size_view, statement_view, statements_view}
use Rattle.ec_meaning_defs.specs.evaluation.Evaluate.{eval}
use Rattle.ec_meaning_defs.specs.evaluation.Execute.{declared, enter, initialized, returning, run, run_all}
use Rattle.ec_meaning_defs.specs.evaluation.Results.{on, on_value, turn, went}
use Rattle.ec_meaning_defs.specs.evaluation.State.{stuck}
use Rattle.ec_meaning_defs.specs.resolved.Operations.{is_true}
use Rattle.ec_machine.specs.declared.frame.Frame.TheVariants as frame
use Rattle.ec_machine.specs.Frames.{here, plug, resume}
use Rattle.ec_machine.specs.Goes.{at, env_of, tasks}
use Rattle.ec_machine.proofs.Moves.{goes_as, resume_over}
use Rattle.ec_machine.proofs.Running.{to_OnLine, to_Nothing, to_Evaluate, to_Declare, to_Initialize, to_Block, to_Choose, to_Loop, to_Leave, to_Next, to_Return, to_Goto, to_Label, to_Switch, to_Embedded}
use Rattle.ec_machine.specs.Weights.{expressions_weight, statement_weight, statements_weight, test_weight}
use Rattle.ec_machine.proofs.Weighing.{err_near, nearer, weight-OnLine, weight-Nothing, weight-Evaluate, weight-Declare, weight-Initialize, weight-Block, weight-Choose, weight-Loop, weight-Leave, weight-Next, weight-Return, weight-Label, weight-Switch}
use Rattle.ec_machine.proofs.machine.Machine.run.Goals as goal

pub returns-in-OnLine-clause-goes : goal.returns-in-OnLine-clause-goes
returns-in-OnLine-clause-goes c =
    let fs = c.args.functions.now in
    let m = c.args.self.now in
    goes_as fs m c.on_line.new.self (env_of m) c.on_line.result _ (λ knowing w t. run knowing w (here (env_of m) c.in-OnLine.line) (statement_view c.get.result.now) t)
    (λ knowing w t. to_OnLine knowing w (env_of m) t m.line c.args.statement.now c.in-OnLine.line c.in-OnLine.inner c.get.result.now c.in-OnLine.is c.get.ensures)
    c.on_line.ensures.goes

pub returns-in-Nothing-clause-goes : goal.returns-in-Nothing-clause-goes
returns-in-Nothing-clause-goes c = λ knowing fits k s l.
    let w = tasks knowing c.args.functions.now k in
    let m = c.args.self.now in
    ap (resume knowing w (env_of m) (reverse m.frames)) (to_Nothing knowing w (env_of m) (at s m) m.line c.args.statement.now c.in-Nothing.is)

pub returns-in-Evaluate-clause-goes : goal.returns-in-Evaluate-clause-goes
returns-in-Evaluate-clause-goes c =
    let fs = c.args.functions.now in
    let m = c.args.self.now in
    goes_as fs m c.effect.new.self (env_of m) c.effect.result _ (λ knowing w t. on_value (eval knowing w (here (env_of m) m.line) (expression_view c.in-Evaluate.expression) t) (λ v u. on u))
    (λ knowing w t. to_Evaluate knowing w (env_of m) t m.line c.args.statement.now c.in-Evaluate.expression c.in-Evaluate.is)
    c.effect.ensures.goes

pub returns-in-Declare-clause-goes : goal.returns-in-Declare-clause-goes
returns-in-Declare-clause-goes c =
    let fs = c.args.functions.now in
    let m = c.args.self.now in
    let d = here (env_of m) m.line in
    goes_as fs m c.declare.new.self (env_of m) c.declare.result _ (λ knowing w t. declared d c.in-Declare.slot c.in-Declare.size t)
    (λ knowing w t. to_Declare knowing w (env_of m) t m.line c.args.statement.now c.in-Declare.slot c.in-Declare.size c.in-Declare.is)
    (c.declare.ensures.goes fs)

pub returns-in-Initialize-clause-goes : goal.returns-in-Initialize-clause-goes
returns-in-Initialize-clause-goes c =
    let fs = c.args.functions.now in
    let m = c.args.self.now in
    let d = here (env_of m) m.line in
    goes_as fs m c.initialize.new.self (env_of m) c.initialize.result _ (λ knowing w t. initialized knowing w d c.in-Initialize.slot c.in-Initialize.size (expressions_view c.as_slice.result.now) t)
    (λ knowing w t. to_Initialize knowing w (env_of m) t m.line c.args.statement.now c.in-Initialize.slot c.in-Initialize.size c.in-Initialize.values c.as_slice.result.now c.in-Initialize.is c.as_slice.ensures)
    c.initialize.ensures.goes

pub returns-in-Block-clause-goes : goal.returns-in-Block-clause-goes
returns-in-Block-clause-goes c =
    let fs = c.args.functions.now in
    let m = c.args.self.now in
    let d = here (env_of m) m.line in
    let sizes = c.as_slice-in-Block.result.now in
    let body = c.as_slice-in-Block-2.result.now in
    goes_as fs m c.run_block.new.self (env_of m) c.run_block.result _ (λ knowing w t. enter w d (map size_view sizes) (statements_view body) (λ d u. run_all knowing w d (statements_view body) u) t)
    (λ knowing w t. to_Block knowing w (env_of m) t m.line c.args.statement.now c.in-Block.sizes sizes c.in-Block.body body c.in-Block.is c.as_slice-in-Block.ensures c.as_slice-in-Block-2.ensures)
    c.run_block.ensures.goes

pub returns-in-Choose-clause-goes : goal.returns-in-Choose-clause-goes
returns-in-Choose-clause-goes c =
    let fs = c.args.functions.now in
    let m = c.args.self.now in
    let d = here (env_of m) m.line in
    goes_as fs m c.branch-self.new.self (env_of m) c.branch-self.result _
    (λ knowing w t. on_value (eval knowing w d (expression_view c.in-Choose.test) t) (λ v u. elim (is_true v) [ true ↦ run knowing w d (statement_view c.get-in-Choose.result.now) u | false ↦ run knowing w d (statement_view c.get-in-Choose-2.result.now) u ]))
    (λ knowing w t. to_Choose knowing w (env_of m) t m.line c.args.statement.now c.in-Choose.test c.in-Choose.first c.in-Choose.second c.get-in-Choose.result c.get-in-Choose-2.result c.in-Choose.is c.get-in-Choose.ensures c.get-in-Choose-2.ensures)
    (c.branch-self.ensures.goes fs)

pub returns-in-Loop-clause-goes : goal.returns-in-Loop-clause-goes
returns-in-Loop-clause-goes c =
    let fs = c.args.functions.now in
    let m = c.args.self.now in
    let d = here (env_of m) m.line in
    goes_as fs m c.run_loop.new.self (env_of m) c.run_loop.result _ (λ knowing w t. run knowing w d (loop_view c.get-in-Loop.result.now) t)
    (λ knowing w t. to_Loop knowing w (env_of m) t m.line c.args.statement.now c.in-Loop.inner c.get-in-Loop.result.now c.in-Loop.is c.get-in-Loop.ensures)
    c.run_loop.ensures.goes

pub returns-in-Leave-clause-goes : goal.returns-in-Leave-clause-goes
returns-in-Leave-clause-goes c = λ knowing fits k s l.
    let w = tasks knowing c.args.functions.now k in
    let m = c.args.self.now in
    ap (resume knowing w (env_of m) (reverse m.frames)) (to_Leave knowing w (env_of m) (at s m) m.line c.args.statement.now c.in-Leave.is)

pub returns-in-Next-clause-goes : goal.returns-in-Next-clause-goes
returns-in-Next-clause-goes c = λ knowing fits k s l.
    let w = tasks knowing c.args.functions.now k in
    let m = c.args.self.now in
    ap (resume knowing w (env_of m) (reverse m.frames)) (to_Next knowing w (env_of m) (at s m) m.line c.args.statement.now c.in-Next.is)

pub returns-in-Return-clause-goes : goal.returns-in-Return-clause-goes
returns-in-Return-clause-goes c =
    let fs = c.args.functions.now in
    let m = c.args.self.now in
    let d = here (env_of m) m.line in
    goes_as fs m c.run_return.new.self (env_of m) c.run_return.result _ (λ knowing w t. returning knowing w d (option_map expression_view c.in-Return.value) t)
    (λ knowing w t. to_Return knowing w (env_of m) t m.line c.args.statement.now c.in-Return.value c.in-Return.is)
    c.run_return.ensures.goes

pub returns-in-Goto-clause-goes : goal.returns-in-Goto-clause-goes
returns-in-Goto-clause-goes c =
    let fs = c.args.functions.now in
    let m = c.args.self.now in
    goes_as fs m c.jump.new.self (env_of m) c.jump.result _ (λ knowing w t. turn t (λ u. went c.in-Goto.label u))
    (λ knowing w t. to_Goto knowing w (env_of m) t m.line c.args.statement.now c.in-Goto.label c.in-Goto.is)
    (c.jump.ensures.goes fs)

pub returns-in-Label-clause-goes : goal.returns-in-Label-clause-goes
returns-in-Label-clause-goes c = λ knowing fits k s l.
    let w = tasks knowing c.args.functions.now k in
    let m = c.args.self.now in
    ap (resume knowing w (env_of m) (reverse m.frames)) (to_Label knowing w (env_of m) (at s m) m.line c.args.statement.now c.in-Label.field-0 c.in-Label.inner c.get-in-Label.result.now c.in-Label.is c.get-in-Label.ensures)

pub returns-in-Switch-clause-goes : goal.returns-in-Switch-clause-goes
returns-in-Switch-clause-goes c =
    let fs = c.args.functions.now in
    let m = c.args.self.now in
    goes_as fs m c.switch.new.self (env_of m) c.switch.result _
    (λ knowing w t. plug knowing w (env_of m) (frame.Select m.line c.get-in-Switch.result) (eval knowing w (here (env_of m) m.line) (expression_view c.in-Switch.operand) t))
    (λ knowing w t. to_Switch knowing w (env_of m) t m.line c.args.statement.now c.in-Switch.operand c.in-Switch.body c.get-in-Switch.result c.in-Switch.is c.get-in-Switch.ensures)
    (c.switch.ensures.goes fs)

pub returns-in-Embedded-clause-goes : goal.returns-in-Embedded-clause-goes
returns-in-Embedded-clause-goes c = λ knowing fits k s l.
    let w = tasks knowing c.args.functions.now k in
    let m = c.args.self.now in
    ap (resume knowing w (env_of m) (reverse m.frames)) (to_Embedded knowing w (env_of m) (at s m) m.line c.args.statement.now c.in-Embedded.field-0 fits c.in-Embedded.is)
    ∙ resume_over knowing w (env_of m) (reverse m.frames) stuck (at s m)

pub returns-in-OnLine-clause-nears : goal.returns-in-OnLine-clause-nears
returns-in-OnLine-clause-nears c = omega (arith, c.on_line.ensures.nears, ap statement_weight c.in-OnLine.is ∙ weight-OnLine _ _, ap statement_weight c.get.ensures)

pub returns-in-Nothing-clause-nears : goal.returns-in-Nothing-clause-nears
returns-in-Nothing-clause-nears c = nearer _ _ _ _ (omega (arith, ap statement_weight c.in-Nothing.is ∙ weight-Nothing))

pub returns-in-Evaluate-clause-nears : goal.returns-in-Evaluate-clause-nears
returns-in-Evaluate-clause-nears c = omega (arith, c.effect.ensures.nears, ap statement_weight c.in-Evaluate.is ∙ weight-Evaluate _)

pub returns-in-Declare-clause-nears : goal.returns-in-Declare-clause-nears
returns-in-Declare-clause-nears c = omega (arith, c.declare.ensures.nears, ap statement_weight c.in-Declare.is ∙ weight-Declare _ _)

pub returns-in-Initialize-clause-nears : goal.returns-in-Initialize-clause-nears
returns-in-Initialize-clause-nears c = omega (arith, c.initialize.ensures.nears, ap statement_weight c.in-Initialize.is ∙ weight-Initialize _ _ _, ap expressions_weight c.as_slice.ensures)

pub returns-in-Block-clause-nears : goal.returns-in-Block-clause-nears
returns-in-Block-clause-nears c = omega (arith, c.run_block.ensures.nears, ap statement_weight c.in-Block.is ∙ weight-Block _ _, ap statements_weight c.as_slice-in-Block-2.ensures)

pub returns-in-Choose-clause-nears : goal.returns-in-Choose-clause-nears
returns-in-Choose-clause-nears c = omega (arith, c.branch-self.ensures.nears, ap statement_weight c.in-Choose.is ∙ weight-Choose _ _ _, ap statement_weight c.get-in-Choose.ensures, ap statement_weight c.get-in-Choose-2.ensures)

pub returns-in-Loop-clause-nears : goal.returns-in-Loop-clause-nears
returns-in-Loop-clause-nears c = omega (arith, c.run_loop.ensures.nears, ap statement_weight c.in-Loop.is ∙ weight-Loop _, ap test_weight c.get-in-Loop.ensures)

pub returns-in-Leave-clause-nears : goal.returns-in-Leave-clause-nears
returns-in-Leave-clause-nears c = nearer _ _ _ _ (omega (arith, ap statement_weight c.in-Leave.is ∙ weight-Leave))

pub returns-in-Next-clause-nears : goal.returns-in-Next-clause-nears
returns-in-Next-clause-nears c = nearer _ _ _ _ (omega (arith, ap statement_weight c.in-Next.is ∙ weight-Next))

pub returns-in-Return-clause-nears : goal.returns-in-Return-clause-nears
returns-in-Return-clause-nears c = omega (arith, c.run_return.ensures.nears, ap statement_weight c.in-Return.is ∙ weight-Return _)

pub returns-in-Goto-clause-nears : goal.returns-in-Goto-clause-nears
returns-in-Goto-clause-nears c = omega (arith, c.jump.ensures.nears)

pub returns-in-Label-clause-nears : goal.returns-in-Label-clause-nears
returns-in-Label-clause-nears c = nearer _ _ _ _ (omega (arith, ap statement_weight c.in-Label.is ∙ weight-Label _ _, ap statement_weight c.get-in-Label.ensures))

pub returns-in-Switch-clause-nears : goal.returns-in-Switch-clause-nears
returns-in-Switch-clause-nears c = omega (arith, c.switch.ensures.nears, ap statement_weight c.in-Switch.is ∙ weight-Switch _ _, ap statement_weight c.get-in-Switch.ensures)

pub returns-in-Embedded-clause-nears : goal.returns-in-Embedded-clause-nears
returns-in-Embedded-clause-nears c = err_near _ _ _ _
