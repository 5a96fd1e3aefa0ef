-- One more step.
use Rattle.std.proofs.Common.{◌≡◌, ◌∙◌, ap, sym, rules}
use Rattle.std.specs.Prelude.{map}
use Rattle.ec_code.specs.declared.expression.Expression.{the_lemmas}
use Rattle.ec_code.specs.declared.expression.Expression.TheBlock as E
use Rattle.ec_code.specs.declared.expression.PlainStep.TheViews as P
use Rattle.ec_code.specs.declared.expression.Plain.{the_lemmas as plain_lemmas}
use Rattle.ec_code.specs.Trees.{leaf_view, stepped, walked}
use Rattle.ec_code.specs.Views.{expression_view, plain_step_view, plain_view}
use Rattle.ec_code.proofs.Walked.{walked_more}
use Rattle.ec_code.proofs.making.plain_with.Goals as goal

pub returns : goal.returns
returns c =
    let d : expression_view (E.Plain (P.roll-Plain record { leaf = c.args.plain.leaf; steps = c.push.new.self })) ≡ plain_view (P.roll-Plain record { leaf = c.args.plain.leaf; steps = c.push.new.self }) = search (rules, the_lemmas) in
    let e : plain_view (P.roll-Plain record { leaf = c.args.plain.leaf; steps = c.push.new.self }) ≡ walked (leaf_view c.args.plain.leaf) (map plain_step_view c.push.new.self) = search (rules, plain_lemmas) in
    let o : plain_view c.args.plain ≡ walked (leaf_view c.args.plain.leaf) (map plain_step_view c.args.plain.steps) = search (rules, plain_lemmas) in
    d ∙ e ∙ ap (λ xs. walked (leaf_view c.args.plain.leaf) (map plain_step_view xs)) c.in_ok-push.ensures.ok
    ∙ walked_more plain_step_view (leaf_view c.args.plain.leaf) c.args.plain.steps c.args.step
    ∙ ap (λ z. stepped z (plain_step_view c.args.step)) (sym o)
