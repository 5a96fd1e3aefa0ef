use Rattle.std.proofs.Common.{sym, ap, ◌∙◌, []}
use Rattle.ec_link.specs.declared.request.Request.TheVariants.{Text}
use Rattle.ec_runtime.proofs.Begun.{begins_not, begins_so}
use Rattle.ec_runtime.proofs.firsts.begin_first.Goals as goal

pub returns-then-not-is_due-clause-says : goal.returns-then-not-is_due-clause-says
returns-then-not-is_due-clause-says g c = begins_not c.args.session.now c.args.request c.args.outputs (sym c.is_due.ensures ∙ c.if-not-is_due.true)

pub returns-in-Ok-clause-says : goal.returns-in-Ok-clause-says
returns-in-Ok-clause-says g c =
    begins_so c.args.session.now c.args.request c.args.outputs c.text_request.result (sym c.is_due.ensures ∙ c.if-not-is_due.false) (c.text_request.ensures ∙ ap (λ t. Text t []) (c.in-Ok.ensures ∙ c.as_slice.ensures))
