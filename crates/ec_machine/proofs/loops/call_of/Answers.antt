use Rattle.std.proofs.Common.{◌≡◌, ◌∙◌, ap}
use Rattle.ec_code.specs.Views.{expression_view, full_view, statement_view}
use Rattle.ec_meaning_defs.specs.resolved.Resolved.{evaluate}
use Rattle.ec_machine.proofs.Quickly.{some_as}
use Rattle.ec_machine.proofs.Views.{view-Evaluate}
use Rattle.ec_machine.proofs.loops.call_of.Goals as goal

pub returns-in-Evaluate : goal.returns-in-Evaluate
returns-in-Evaluate c = some_as c.full_of.result (λ full. expression_view c.in-Evaluate.expression ≡ full_view full.now) (λ full. statement_view c.args.statement.now ≡ evaluate (full_view full.now)) (λ full h. ap statement_view c.in-Evaluate.is ∙ view-Evaluate c.in-Evaluate.expression ∙ ap evaluate h) c.full_of.ensures
