use Rattle.std.proofs.Common.{◌∙◌, ap, sym, true, false, Some, None}
use Rattle.ec_ctypes.specs.views.Checked.{mark_view}
use Rattle.ec_ctypes.specs.views.Embedded.{action_view}
use Rattle.ec_whenever.specs.Chosen.{action_for}
use Rattle.ec_whenever.proofs.Searching.{mapped_last}
use Rattle.ec_whenever.proofs.lookup.last_action.Goals as goal

pub returns-then-same_cond : goal.returns-then-same_cond
returns-then-same_cond c =
    let item = c.last-item.result in
    sym (ap (action_for c.args.cond) (mapped_last mark_view c.args.marks.now item c.in-len1-up.len_at_least c.last-item.is)
    ∙ (λ i. elim ((sym c.same_cond.ensures ∙ c.if-same_cond.true) i) [ true ↦ Some (action_view item.2) | false ↦ None ]))

pub returns-else-same_cond : goal.returns-else-same_cond
returns-else-same_cond c =
    let item = c.last-item.result in
    sym (ap (action_for c.args.cond) (mapped_last mark_view c.args.marks.now item c.in-len1-up.len_at_least c.last-item.is)
    ∙ (λ i. elim ((sym c.same_cond.ensures ∙ c.if-same_cond.false) i) [ true ↦ Some (action_view item.2) | false ↦ None ]))
