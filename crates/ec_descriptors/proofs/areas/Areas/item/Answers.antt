use Rattle.std.proofs.Common.{◌≡◌, ◌∙◌, ap, length, subst, None, w64}
use Rattle.std.specs.Prelude.{IfErr}
use Rattle.ec_call_defs.specs.Areas.{within}
use Rattle.std.proofs.lemmas.Int.{to_z-of_z}
use Rattle.ec_descriptors.specs.Calls.{item_of, with_items}
use Rattle.ec_descriptors.specs.Views.{items_view}
use Rattle.ec_descriptors.proofs.Named.{out_of}
use Rattle.ec_descriptors.proofs.areas.Areas.item.Goals as goal

pub returns-in-Some-clause-item : goal.returns-in-Some-clause-item
returns-in-Some-clause-item c =
    c.item_within.ensures.item ∙ ap (λ index. item_of index (items_view c.in-Some.items.now)) (to_z-of_z w64 c.args.index c.ranges.index)
    ∙ ap (λ o. with_items o (λ items. item_of c.args.index items)) c.in-Some.ensures

pub returns-in-None-clause-item : goal.returns-in-None-clause-item
returns-in-None-clause-item c = ap (λ o. with_items o (λ items. item_of c.args.index items)) c.in-None.ensures

pub returns-in-Some-clause-out : goal.returns-in-Some-clause-out
returns-in-Some-clause-out c = λ items there.
    out_of c.args.index c.in-Some.items.now items c.item_within.result (c.in-Some.ensures ∙ there)
    (subst (λ index. IfErr c.item_within.result (λ (stop : _). within 1 (length c.in-Some.items.now) index ≡ None)) (to_z-of_z w64 c.args.index c.ranges.index) c.item_within.ensures.out)

pub returns-in-None-clause-out : goal.returns-in-None-clause-out
returns-in-None-clause-out c = λ items there. absurd (cc (c.in-None.ensures ∙ there))
