use Rattle.std.proofs.Common.{◌∙◌, ap, Some}
use Rattle.std.specs.Prelude.{option_map}
use Rattle.ec_call_defs.specs.Areas.{area_named}
use Rattle.ec_descriptors.specs.Views.{items_view}
use Rattle.ec_descriptors.proofs.Named.{items_named}
use Rattle.ec_descriptors.proofs.areas.Areas.items.Goals as goal

pub returns-in-Some : goal.returns-in-Some
returns-in-Some c =
    ap (λ xs. Some (items_view xs)) c.as_slice.ensures ∙ ap (option_map items_view) c.in-Some.ensures.value
    ∙ items_named c.args.name.now c.self.inside.named.entries ∙ ap (area_named c.args.name.now) c.self.view_is

pub returns-in-None : goal.returns-in-None
returns-in-None c =
    ap (option_map items_view) c.in-None.ensures.value ∙ items_named c.args.name.now c.self.inside.named.entries ∙ ap (area_named c.args.name.now) c.self.view_is
