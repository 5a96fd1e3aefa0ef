use Rattle.std.proofs.Common.{◌∙◌, ap, sym, length, Ok}
use Rattle.std.proofs.lemmas.List.{length-map}
use Rattle.ec_descriptors.specs.Calls.{with_items}
use Rattle.ec_descriptors.specs.Views.{item_view}
use Rattle.ec_descriptors.proofs.areas.Areas.count.Goals as goal

pub returns-in-Some : goal.returns-in-Some
returns-in-Some c = ap Ok (sym (length-map c.in-Some.items.now item_view)) ∙ ap (λ o. with_items o (λ items. Ok (length items))) c.in-Some.ensures

pub returns-in-None : goal.returns-in-None
returns-in-None c = ap (λ o. with_items o (λ items. Ok (length items))) c.in-None.ensures
