use Rattle.std.proofs.Common.{◌≤◌, ◌∙◌, ap, map, length, arith}
use Rattle.std.proofs.lemmas.List.{length-map}
use Rattle.ec_ctypes.specs.views.Checked.{mark_view}
use Rattle.ec_typing_defs.specs.statement_parts.Handlers.{action_among}
use Rattle.ec_whenever.specs.Chosen.{last_action}
use Rattle.ec_whenever.specs.Tables.{is_sorted}
use Rattle.ec_whenever.proofs.Searching.{found, mapped_front}
use Rattle.ec_whenever.proofs.lookup.HandlerTableHandlerLookup.at.Goals as goal

pub returns : goal.returns
returns c =
    let marks = c.as_slice-marks.result.now in
    let front = c.count_before-before.result in
    let inside : front ≤ length (map mark_view marks) = omega (arith, length-map marks mark_view, c.count_before-before.ensures.most) in
    c.last_action.ensures
    ∙ ap (last_action c.args.cond) (mapped_front mark_view front marks)
    ∙ found c.args.place c.args.cond front (map mark_view marks) inside ((λ i. is_sorted (map mark_view (c.as_slice-marks.ensures i))) ∙ c.requires) c.count_before-before.ensures.before c.count_before-before.ensures.behind
    ∙ (λ i. action_among (map mark_view (c.as_slice-marks.ensures i)) c.args.place c.args.cond)
