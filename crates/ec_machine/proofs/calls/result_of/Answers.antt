use Rattle.std.proofs.Common.{◌≡◌, ◌∙◌, ap, Some}
use Rattle.std.specs.Option.{option_map}
use Rattle.ec_code.specs.Views.{expression_view, full_view, statement_view}
use Rattle.ec_meaning_defs.specs.resolved.Resolved.{return}
use Rattle.ec_machine.proofs.Quickly.{some_as}
use Rattle.ec_machine.proofs.Views.{view-Return}
use Rattle.ec_machine.proofs.calls.result_of.Goals as goal

pub returns-in-Some : goal.returns-in-Some
returns-in-Some c = some_as c.full_of.result (λ full. expression_view c.in-Some.expression ≡ full_view full.now) (λ full. statement_view c.args.statement.now ≡ return (Some (full_view full.now))) (λ full h. ap statement_view c.in-Return.is ∙ view-Return c.in-Return.value ∙ ap (λ z. return (option_map expression_view z)) c.in-Some.is ∙ ap (λ z. return (Some z)) h) c.full_of.ensures
