use Rattle.std.proofs.Common.{◌∙◌, ap, sym, Ok}
use Rattle.ec_call_defs.specs.Areas.{without_area}
use Rattle.ec_descriptors.specs.Calls.{with_items}
use Rattle.ec_descriptors.specs.Views.{areas_view}
use Rattle.ec_descriptors.proofs.Named.{entry_removed}
use Rattle.ec_descriptors.proofs.areas.Areas.deallocate.Goals as goal

pub returns : goal.returns
returns c =
    ap (λ o. with_items o (λ items. Ok (without_area c.args.name.now c.args.self.now))) (sym c.in-Some.ensures)
    ∙ ap Ok (sym (ap areas_view c.shift_remove.ensures.entries ∙ entry_removed c.args.name.now c.self.inside.named.entries ∙ ap (without_area c.args.name.now) c.self.view_is))
