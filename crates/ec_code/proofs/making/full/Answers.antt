-- No step is there yet.
use Rattle.std.proofs.Common.{◌≡◌, ◌∙◌, ap, rules}
use Rattle.std.specs.Prelude.{map}
use Rattle.ec_code.specs.declared.expression.Expression.{the_lemmas}
use Rattle.ec_code.specs.declared.expression.Expression.TheViews as E
use Rattle.ec_code.specs.declared.expression.Full.{the_lemmas as full_lemmas}
use Rattle.ec_code.specs.Trees.{walked}
use Rattle.ec_code.specs.Views.{expression_view, full_step_view, head_view}
use Rattle.ec_code.proofs.making.full.Goals as goal

pub returns : goal.returns
returns c =
    let e : expression_view (E.Full (E.roll-Full record { head = c.args.head; steps = c.new.result })) ≡ walked (head_view c.args.head) (map full_step_view c.new.result) = search (rules, the_lemmas, full_lemmas) in
    e ∙ ap (λ xs. walked (head_view c.args.head) (map full_step_view xs)) c.new.ensures
