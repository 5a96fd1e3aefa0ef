use Rattle.std.proofs.Common.{◌∙◌, ap}
use Rattle.ec_ctypes.specs.views.Types.{ty_view}
use Rattle.ec_resolving_defs.specs.Conversions.{size_or_none}
use Rattle.ec_scopes.specs.Seen.{world_of}
use Rattle.ec_typing_defs.specs.Worlds.{shape_in}
use Rattle.ec_resolve_forms.specs.Readings.{shape_by}
use Rattle.ec_resolve_forms.proofs.Sizing.{shape_measured}
use Rattle.ec_resolve_forms.proofs.sizes.size_of.Goals as goal

pub returns : goal.returns
returns c =
    c.size_by.ensures ∙ ap (λ m. size_or_none (shape_by m)) c.shape.ensures
    ∙ ap size_or_none (shape_measured (shape_in (world_of c.args.checker.now) (ty_view c.args.ty.now)))
