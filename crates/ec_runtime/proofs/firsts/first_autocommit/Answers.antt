use Rattle.std.proofs.Common.{sym, ap, ◌∙◌, []}
use Rattle.ec_link.specs.declared.request.Request.TheVariants.{Text}
use Rattle.ec_runtime.proofs.Begun.{switched_at_once, switched_behind}
use Rattle.ec_runtime.proofs.firsts.first_autocommit.Goals as goal

pub returns-then-not-commits_first-clause-starts : goal.returns-then-not-commits_first-clause-starts
returns-then-not-commits_first-clause-starts g c = λ m areas. switched_at_once c.args.on m areas c.args.session.now (sym c.commits_first.ensures ∙ c.if-not-commits_first.true)

pub returns-in-Ok-clause-starts : goal.returns-in-Ok-clause-starts
returns-in-Ok-clause-starts g c = λ m areas.
    switched_behind c.args.on m areas c.args.session.now c.text_request.result (sym c.commits_first.ensures ∙ c.if-not-commits_first.false) (c.text_request.ensures ∙ ap (λ t. Text t []) (c.in-Ok.ensures ∙ c.as_slice.ensures))
