use Rattle.std.proofs.Common.{◌∙◌, ◌<◌, ap, sym, subst}
use Rattle.std.proofs.lemmas.List.{length-map, take-map}
use Rattle.ec_descriptors.specs.Views.{item_view, items_view}
use Rattle.ec_descriptors.proofs.Counts.{cut}
use Rattle.ec_descriptors.proofs.items.resize.Goals as goal

pub returns-then-count-len-clause-ok : goal.returns-then-count-len-clause-ok
returns-then-count-len-clause-ok c =
    ap items_view c.truncate.ensures ∙ sym (take-map item_view c.args.count c.args.items.now)
    ∙ cut c.args.count (items_view c.args.items.now) (subst (λ n. c.args.count < n) (c.len.ensures ∙ sym (length-map c.args.items.now item_view)) c.if-count-len.true)
