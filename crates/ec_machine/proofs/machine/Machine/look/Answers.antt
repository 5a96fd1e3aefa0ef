use Rattle.std.proofs.Common.{◌∙◌, ap, sym, arith, map}
use Rattle.std.specs.Prelude.{reverse}
use Rattle.ec_code.specs.declared.statement.Loop.{out-Loop}
use Rattle.ec_code.specs.Marks.{mark_view}
use Rattle.ec_code.specs.Views.{size_view, statement_view, statements_view}
use Rattle.ec_meaning_defs.specs.evaluation.Execute.{enter, look, look_all}
use Rattle.ec_machine.specs.declared.frame.Frame.TheVariants as frame
use Rattle.ec_machine.specs.Frames.{body_of, here, resume}
use Rattle.ec_machine.specs.Goes.{at, env_of, tasks}
use Rattle.ec_machine.proofs.Moves.{goes_as, pushed}
use Rattle.ec_machine.proofs.Running.{look_OnLine, look_Block, look_first, look_second, look_Loop, look_Switch, look_there, look_further, look_Nothing, look_Evaluate, look_Declare, look_Initialize, look_Leave, look_Next, look_Return, look_Goto, look_Embedded}
use Rattle.ec_machine.specs.Weights.{again_weight, statement_weight, statements_weight}
use Rattle.ec_machine.proofs.Weighing.{nearer, pushes, weight-OnLine, weight-Nothing, weight-Evaluate, weight-Declare, weight-Initialize, weight-Block, weight-Choose, weight-Loop, weight-Leave, weight-Next, weight-Return, weight-Goto, weight-Label, weight-Switch, weight-Embedded, err_exit}
use Rattle.ec_machine.proofs.machine.Machine.look.Goals as goal

pub returns-in-OnLine-clause-goes : goal.returns-in-OnLine-clause-goes
returns-in-OnLine-clause-goes c = λ fs knowing fits k s l.
    let w = tasks knowing fs k in
    let m = c.args.self.now in
    ap (resume knowing w (env_of m) (reverse m.frames)) (look_OnLine knowing w (env_of m) (at s m) m.line c.args.statement.now (mark_view c.args.label) c.in-OnLine.line c.in-OnLine.inner c.get.result.now c.in-OnLine.is c.get.ensures)

pub returns-in-Block-clause-goes : goal.returns-in-Block-clause-goes
returns-in-Block-clause-goes c = λ fs.
    let m = c.args.self.now in
    let d = here (env_of m) m.line in
    let sizes = c.as_slice.result.now in
    let body = c.as_slice-in-Block.result.now in
    goes_as fs m c.look_block.new.self (env_of m) c.look_block.result _ (λ knowing w t. enter w d (map size_view sizes) (statements_view body) (λ d u. look_all knowing w (mark_view c.args.label) d (statements_view body) u) t)
    (λ knowing w t. look_Block knowing w (env_of m) t m.line c.args.statement.now (mark_view c.args.label) c.in-Block.sizes sizes c.in-Block.body body c.in-Block.is c.as_slice.ensures c.as_slice-in-Block.ensures)
    (c.look_block.ensures.goes fs)

pub returns-then-holds-clause-goes : goal.returns-then-holds-clause-goes
returns-then-holds-clause-goes c = λ fs knowing fits k s l.
    let w = tasks knowing fs k in
    let m = c.args.self.now in
    ap (resume knowing w (env_of m) (reverse m.frames)) (look_first knowing w (env_of m) (at s m) m.line c.args.statement.now (mark_view c.args.label) c.in-Choose.field-0 c.in-Choose.first c.get-first.result.now c.in-Choose.second c.in-Choose.is c.get-first.ensures (sym c.holds.ensures ∙ c.if-holds.true))

pub returns-else-holds-clause-goes : goal.returns-else-holds-clause-goes
returns-else-holds-clause-goes c = λ fs knowing fits k s l.
    let w = tasks knowing fs k in
    let m = c.args.self.now in
    ap (resume knowing w (env_of m) (reverse m.frames)) (look_second knowing w (env_of m) (at s m) m.line c.args.statement.now (mark_view c.args.label) c.in-Choose.field-0 c.in-Choose.first c.get-first.result.now c.in-Choose.second c.get-else-holds.result.now c.in-Choose.is c.get-first.ensures c.get-else-holds.ensures (sym c.holds.ensures ∙ c.if-holds.false))

pub returns-in_ok-push-in-Loop-clause-goes : goal.returns-in_ok-push-in-Loop-clause-goes
returns-in_ok-push-in-Loop-clause-goes c = λ fs knowing fits k s l.
    let w = tasks knowing fs k in
    let m = c.args.self.now in
    ap (resume knowing w (env_of m) (reverse m.frames)) (look_Loop knowing w (env_of m) (at s m) m.line c.args.statement.now (mark_view c.args.label) c.in-Loop.inner c.get-inner.result c.in-Loop.is c.get-inner.ensures)
    ∙ pushed knowing w (env_of m) m.frames c.push.new.self (frame.Body m.line c.get-inner.result) (look knowing w (mark_view c.args.label) (here (env_of m) m.line) (body_of c.get-inner.result.now) (at s m)) c.in_ok-push-in-Loop.ensures.ok

pub returns-then-is_same-clause-goes : goal.returns-then-is_same-clause-goes
returns-then-is_same-clause-goes c = λ fs knowing fits k s l.
    let w = tasks knowing fs k in
    let m = c.args.self.now in
    ap (resume knowing w (env_of m) (reverse m.frames)) (look_there knowing w (env_of m) (at s m) m.line c.args.statement.now (mark_view c.args.label) c.in-Label.mark c.in-Label.inner c.get-then-is_same.result.now c.in-Label.is c.get-then-is_same.ensures (sym c.is_same.ensures ∙ c.if-is_same.true))

pub returns-else-is_same-clause-goes : goal.returns-else-is_same-clause-goes
returns-else-is_same-clause-goes c = λ fs knowing fits k s l.
    let w = tasks knowing fs k in
    let m = c.args.self.now in
    ap (resume knowing w (env_of m) (reverse m.frames)) (look_further knowing w (env_of m) (at s m) m.line c.args.statement.now (mark_view c.args.label) c.in-Label.mark c.in-Label.inner c.get-else-is_same.result.now c.in-Label.is c.get-else-is_same.ensures (sym c.is_same.ensures ∙ c.if-is_same.false))

pub returns-in_ok-push-in-Switch-clause-goes : goal.returns-in_ok-push-in-Switch-clause-goes
returns-in_ok-push-in-Switch-clause-goes c = λ fs knowing fits k s l.
    let w = tasks knowing fs k in
    let m = c.args.self.now in
    ap (resume knowing w (env_of m) (reverse m.frames)) (look_Switch knowing w (env_of m) (at s m) m.line c.args.statement.now (mark_view c.args.label) c.in-Switch.field-0 c.in-Switch.body c.get-in-Switch.result.now c.in-Switch.is c.get-in-Switch.ensures)
    ∙ pushed knowing w (env_of m) m.frames c.push-in-Switch.new.self frame.Switch (look knowing w (mark_view c.args.label) (here (env_of m) m.line) (statement_view c.get-in-Switch.result.now) (at s m)) c.in_ok-push-in-Switch.ensures.ok

pub returns-in-Nothing-clause-goes : goal.returns-in-Nothing-clause-goes
returns-in-Nothing-clause-goes c = λ fs knowing fits k s l.
    let m = c.args.self.now in
    ap (resume knowing (tasks knowing fs k) (env_of m) (reverse m.frames)) (look_Nothing knowing (tasks knowing fs k) (env_of m) (at s m) m.line c.args.statement.now (mark_view c.args.label) c.in-Nothing.is)

pub returns-in-Evaluate-clause-goes : goal.returns-in-Evaluate-clause-goes
returns-in-Evaluate-clause-goes c = λ fs knowing fits k s l.
    let m = c.args.self.now in
    ap (resume knowing (tasks knowing fs k) (env_of m) (reverse m.frames)) (look_Evaluate knowing (tasks knowing fs k) (env_of m) (at s m) m.line c.args.statement.now (mark_view c.args.label) c.in-Evaluate.field-0 c.in-Evaluate.is)

pub returns-in-Declare-clause-goes : goal.returns-in-Declare-clause-goes
returns-in-Declare-clause-goes c = λ fs knowing fits k s l.
    let m = c.args.self.now in
    ap (resume knowing (tasks knowing fs k) (env_of m) (reverse m.frames)) (look_Declare knowing (tasks knowing fs k) (env_of m) (at s m) m.line c.args.statement.now (mark_view c.args.label) c.in-Declare.field-0 c.in-Declare.field-1 c.in-Declare.is)

pub returns-in-Initialize-clause-goes : goal.returns-in-Initialize-clause-goes
returns-in-Initialize-clause-goes c = λ fs knowing fits k s l.
    let m = c.args.self.now in
    ap (resume knowing (tasks knowing fs k) (env_of m) (reverse m.frames)) (look_Initialize knowing (tasks knowing fs k) (env_of m) (at s m) m.line c.args.statement.now (mark_view c.args.label) c.in-Initialize.field-0 c.in-Initialize.field-1 c.in-Initialize.field-2 c.in-Initialize.is)

pub returns-in-Leave-clause-goes : goal.returns-in-Leave-clause-goes
returns-in-Leave-clause-goes c = λ fs knowing fits k s l.
    let m = c.args.self.now in
    ap (resume knowing (tasks knowing fs k) (env_of m) (reverse m.frames)) (look_Leave knowing (tasks knowing fs k) (env_of m) (at s m) m.line c.args.statement.now (mark_view c.args.label) c.in-Leave.is)

pub returns-in-Next-clause-goes : goal.returns-in-Next-clause-goes
returns-in-Next-clause-goes c = λ fs knowing fits k s l.
    let m = c.args.self.now in
    ap (resume knowing (tasks knowing fs k) (env_of m) (reverse m.frames)) (look_Next knowing (tasks knowing fs k) (env_of m) (at s m) m.line c.args.statement.now (mark_view c.args.label) c.in-Next.is)

pub returns-in-Return-clause-goes : goal.returns-in-Return-clause-goes
returns-in-Return-clause-goes c = λ fs knowing fits k s l.
    let m = c.args.self.now in
    ap (resume knowing (tasks knowing fs k) (env_of m) (reverse m.frames)) (look_Return knowing (tasks knowing fs k) (env_of m) (at s m) m.line c.args.statement.now (mark_view c.args.label) c.in-Return.field-0 c.in-Return.is)

pub returns-in-Goto-clause-goes : goal.returns-in-Goto-clause-goes
returns-in-Goto-clause-goes c = λ fs knowing fits k s l.
    let m = c.args.self.now in
    ap (resume knowing (tasks knowing fs k) (env_of m) (reverse m.frames)) (look_Goto knowing (tasks knowing fs k) (env_of m) (at s m) m.line c.args.statement.now (mark_view c.args.label) c.in-Goto.field-0 c.in-Goto.is)

pub returns-in-Embedded-clause-goes : goal.returns-in-Embedded-clause-goes
returns-in-Embedded-clause-goes c = λ fs knowing fits k s l.
    let m = c.args.self.now in
    ap (resume knowing (tasks knowing fs k) (env_of m) (reverse m.frames)) (look_Embedded knowing (tasks knowing fs k) (env_of m) (at s m) m.line c.args.statement.now (mark_view c.args.label) c.in-Embedded.field-0 c.in-Embedded.is)

pub returns-in-OnLine-clause-nears : goal.returns-in-OnLine-clause-nears
returns-in-OnLine-clause-nears c = nearer _ _ _ _ (omega (arith, ap statement_weight c.in-OnLine.is ∙ weight-OnLine _ _, ap statement_weight c.get.ensures))

pub returns-in-Block-clause-nears : goal.returns-in-Block-clause-nears
returns-in-Block-clause-nears c = omega (arith, c.look_block.ensures.nears, ap statement_weight c.in-Block.is ∙ weight-Block _ _, ap statements_weight c.as_slice-in-Block.ensures)

pub returns-then-holds-clause-nears : goal.returns-then-holds-clause-nears
returns-then-holds-clause-nears c = nearer _ _ _ _ (omega (arith, ap statement_weight c.in-Choose.is ∙ weight-Choose _ _ _, ap statement_weight c.get-first.ensures))

pub returns-else-holds-clause-nears : goal.returns-else-holds-clause-nears
returns-else-holds-clause-nears c = nearer _ _ _ _ (omega (arith, ap statement_weight c.in-Choose.is ∙ weight-Choose _ _ _, ap statement_weight c.get-else-holds.ensures))

pub returns-in_ok-push-in-Loop-clause-nears : goal.returns-in_ok-push-in-Loop-clause-nears
returns-in_ok-push-in-Loop-clause-nears c = pushes _ _ _ _ _ _ c.in_ok-push-in-Loop.ensures.ok (omega (arith, ap statement_weight c.in-Loop.is ∙ weight-Loop _, ap again_weight c.get-inner.ensures, ap (λ x. statement_weight (out-Loop x).body) c.get-inner.ensures))

pub returns-in_ok-push-in-Switch-clause-nears : goal.returns-in_ok-push-in-Switch-clause-nears
returns-in_ok-push-in-Switch-clause-nears c = pushes _ _ _ _ _ _ c.in_ok-push-in-Switch.ensures.ok (omega (arith, ap statement_weight c.in-Switch.is ∙ weight-Switch _ _, ap statement_weight c.get-in-Switch.ensures))

pub returns-then-is_same-clause-nears : goal.returns-then-is_same-clause-nears
returns-then-is_same-clause-nears c = nearer _ _ _ _ (omega (arith, ap statement_weight c.in-Label.is ∙ weight-Label _ _, ap statement_weight c.get-then-is_same.ensures))

pub returns-else-is_same-clause-nears : goal.returns-else-is_same-clause-nears
returns-else-is_same-clause-nears c = nearer _ _ _ _ (omega (arith, ap statement_weight c.in-Label.is ∙ weight-Label _ _, ap statement_weight c.get-else-is_same.ensures))

pub returns-in-Nothing-clause-nears : goal.returns-in-Nothing-clause-nears
returns-in-Nothing-clause-nears c = nearer _ _ _ _ (omega (arith, ap statement_weight c.in-Nothing.is ∙ weight-Nothing))

pub returns-in-Evaluate-clause-nears : goal.returns-in-Evaluate-clause-nears
returns-in-Evaluate-clause-nears c = nearer _ _ _ _ (omega (arith, ap statement_weight c.in-Evaluate.is ∙ weight-Evaluate _))

pub returns-in-Declare-clause-nears : goal.returns-in-Declare-clause-nears
returns-in-Declare-clause-nears c = nearer _ _ _ _ (omega (arith, ap statement_weight c.in-Declare.is ∙ weight-Declare _ _))

pub returns-in-Initialize-clause-nears : goal.returns-in-Initialize-clause-nears
returns-in-Initialize-clause-nears c = nearer _ _ _ _ (omega (arith, ap statement_weight c.in-Initialize.is ∙ weight-Initialize _ _ _))

pub returns-in-Leave-clause-nears : goal.returns-in-Leave-clause-nears
returns-in-Leave-clause-nears c = nearer _ _ _ _ (omega (arith, ap statement_weight c.in-Leave.is ∙ weight-Leave))

pub returns-in-Next-clause-nears : goal.returns-in-Next-clause-nears
returns-in-Next-clause-nears c = nearer _ _ _ _ (omega (arith, ap statement_weight c.in-Next.is ∙ weight-Next))

pub returns-in-Return-clause-nears : goal.returns-in-Return-clause-nears
returns-in-Return-clause-nears c = nearer _ _ _ _ (omega (arith, ap statement_weight c.in-Return.is ∙ weight-Return _))

pub returns-in-Goto-clause-nears : goal.returns-in-Goto-clause-nears
returns-in-Goto-clause-nears c = nearer _ _ _ _ (omega (arith, ap statement_weight c.in-Goto.is ∙ weight-Goto _))

pub returns-in-Embedded-clause-nears : goal.returns-in-Embedded-clause-nears
returns-in-Embedded-clause-nears c = nearer _ _ _ _ (omega (arith, ap statement_weight c.in-Embedded.is ∙ weight-Embedded _))

pub returns-in_err-push-in-Loop-clause-nears : goal.returns-in_err-push-in-Loop-clause-nears
returns-in_err-push-in-Loop-clause-nears c = err_exit _ _ _ _ _ c.from_residual.ensures.1

pub returns-in_err-push-in-Switch-clause-nears : goal.returns-in_err-push-in-Switch-clause-nears
returns-in_err-push-in-Switch-clause-nears c = err_exit _ _ _ _ _ c.from_residual-in_err-push-in-Switch.ensures.1
