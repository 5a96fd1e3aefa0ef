use Rattle.std.proofs.Common.{◌∙◌, ap}
use Rattle.ec_call_defs.specs.Areas.{with_area}
use Rattle.ec_descriptors.specs.Views.{areas_view, items_view}
use Rattle.ec_descriptors.proofs.Named.{entry_put}
use Rattle.ec_descriptors.proofs.areas.Areas.put.Goals as goal

pub returns-clause-ok : goal.returns-clause-ok
returns-clause-ok c =
    ap areas_view c.in_ok-insert.ensures.entries ∙ entry_put c.in_ok-key.key c.args.items c.self.inside.named.entries
    ∙ (λ i. with_area (c.in_ok-key.ensures.items i) (items_view c.args.items) (c.self.view_is i))
