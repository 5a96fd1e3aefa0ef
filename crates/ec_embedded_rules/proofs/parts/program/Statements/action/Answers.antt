use Rattle.std.proofs.Common.{◌∙◌, ap, map}
use Rattle.ec_ctypes.specs.views.Embedded.{emb_view}
use Rattle.ec_typing_defs.specs.statement_parts.Handlers.{handler}
use Rattle.ec_embedded_rules.proofs.parts.program.Statements.action.Goals as goal

pub at-requires : goal.at-requires
at-requires c = c.self.invariant.answers.sorted

pub returns : goal.returns
returns c =
    c.at.ensures ∙ c.self.invariant.answers.actions c.args.place c.args.cond
    ∙ ap (λ es. handler (map emb_view es) c.args.place c.args.cond) c.self.view_is
