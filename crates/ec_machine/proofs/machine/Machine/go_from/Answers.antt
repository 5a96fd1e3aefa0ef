use Rattle.std.proofs.Common.{◌∙◌, ap, arith, sym, true, false}
use Rattle.std.specs.Prelude.{reverse}
use Rattle.ec_code.specs.Marks.{mark_view}
use Rattle.ec_code.specs.Views.{statement_view}
use Rattle.ec_meaning_defs.specs.evaluation.Execute.{look}
use Rattle.ec_meaning_defs.specs.evaluation.Results.{after_switch, on}
use Rattle.ec_meaning_defs.specs.resolved.Labels.{holds}
use Rattle.ec_meaning_defs.specs.resolved.Resolved.{default}
use Rattle.ec_machine.specs.Frames.{here, resume}
use Rattle.ec_machine.specs.Goes.{at, env_of, tasks}
use Rattle.ec_machine.proofs.Moves.{goes_as}
use Rattle.ec_machine.proofs.Weighing.{nearer}
use Rattle.ec_machine.proofs.machine.Machine.go_from.Goals as goal

pub returns-then-holds-clause-goes : goal.returns-then-holds-clause-goes
returns-then-holds-clause-goes c = λ fs.
    let m = c.args.self.now in
    let d = here (env_of m) m.line in
    let x = statement_view c.args.body.now in
    goes_as fs m c.go_to.new.self (env_of m) c.go_to.result _ (λ knowing w t. after_switch (look knowing w (mark_view c.args.label) d x t))
    (λ knowing w t. ap (λ b. elim b [ true ↦ after_switch (look knowing w (mark_view c.args.label) d x t) | false ↦ elim (holds default x) [ true ↦ after_switch (look knowing w default d x t) | false ↦ on t ] ]) (sym c.holds.ensures ∙ c.if-holds.true))
    (c.go_to.ensures.goes fs)

pub returns-then-holds-2-clause-goes : goal.returns-then-holds-2-clause-goes
returns-then-holds-2-clause-goes c = λ fs.
    let m = c.args.self.now in
    let d = here (env_of m) m.line in
    let x = statement_view c.args.body.now in
    goes_as fs m c.go_to-then-holds-2.new.self (env_of m) c.go_to-then-holds-2.result _ (λ knowing w t. after_switch (look knowing w default d x t))
    (λ knowing w t.
    ap (λ b. elim b [ true ↦ after_switch (look knowing w (mark_view c.args.label) d x t) | false ↦ elim (holds default x) [ true ↦ after_switch (look knowing w default d x t) | false ↦ on t ] ]) (sym c.holds.ensures ∙ c.if-holds.false)
    ∙ ap (λ b. elim b [ true ↦ after_switch (look knowing w default d x t) | false ↦ on t ]) (sym c.holds-2.ensures ∙ c.if-holds-2.true))
    (c.go_to-then-holds-2.ensures.goes fs)

pub returns-clause-goes : goal.returns-clause-goes
returns-clause-goes c = λ fs knowing fits k s l.
    let w = tasks knowing fs k in
    let m = c.args.self.now in
    let d = here (env_of m) m.line in
    let x = statement_view c.args.body.now in
    ap (resume knowing w (env_of m) (reverse m.frames))
    (ap (λ b. elim b [ true ↦ after_switch (look knowing w (mark_view c.args.label) d x (at s m)) | false ↦ elim (holds default x) [ true ↦ after_switch (look knowing w default d x (at s m)) | false ↦ on (at s m) ] ]) (sym c.holds.ensures ∙ c.if-holds.false)
    ∙ ap (λ b. elim b [ true ↦ after_switch (look knowing w default d x (at s m)) | false ↦ on (at s m) ]) (sym c.holds-2.ensures ∙ c.if-holds-2.false))

pub returns-clause-nears : goal.returns-clause-nears
returns-clause-nears c = nearer _ _ _ _ (omega arith)
