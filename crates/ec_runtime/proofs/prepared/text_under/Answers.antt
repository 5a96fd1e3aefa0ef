use Rattle.std.proofs.Common.{sym, ◌∙◌, Some}
use Rattle.ec_runtime.proofs.Placing.{text_there, text_missing}
use Rattle.ec_runtime.proofs.prepared.text_under.Goals as goal

pub returns-in-Some : goal.returns-in-Some
returns-in-Some c =
    (λ j. Some (c.as_slice.ensures j))
    ∙ sym (text_there c.args.name.now c.args.prepared.now c.in-Some.at (sym c.in-Some.ensures.place) c.index-prepared-at.result)

pub returns-in-None : goal.returns-in-None
returns-in-None c = sym (text_missing c.args.name.now c.args.prepared.now (sym c.in-None.ensures.place))
