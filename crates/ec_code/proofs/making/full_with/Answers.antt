-- One more step.
use Rattle.std.proofs.Common.{◌≡◌, ◌∙◌, ap, sym, rules}
use Rattle.std.specs.Prelude.{map}
use Rattle.ec_code.specs.declared.expression.Expression.{the_lemmas}
use Rattle.ec_code.specs.declared.expression.Expression.TheViews as E
use Rattle.ec_code.specs.declared.expression.Full.{the_lemmas as full_lemmas}
use Rattle.ec_code.specs.Trees.{stepped, walked}
use Rattle.ec_code.specs.Views.{expression_view, full_step_view, full_view, head_view}
use Rattle.ec_code.proofs.Walked.{walked_more}
use Rattle.ec_code.proofs.making.full_with.Goals as goal

pub returns : goal.returns
returns c =
    let e : expression_view (E.Full (E.roll-Full record { head = c.args.full.head; steps = c.push.new.self })) ≡ walked (head_view c.args.full.head) (map full_step_view c.push.new.self) = search (rules, the_lemmas, full_lemmas) in
    let o : full_view c.args.full ≡ walked (head_view c.args.full.head) (map full_step_view c.args.full.steps) = search (rules, the_lemmas, full_lemmas) in
    e ∙ ap (λ xs. walked (head_view c.args.full.head) (map full_step_view xs)) c.in_ok-push.ensures.ok
    ∙ walked_more full_step_view (head_view c.args.full.head) c.args.full.steps c.args.step
    ∙ ap (λ z. stepped z (full_step_view c.args.step)) (sym o)
