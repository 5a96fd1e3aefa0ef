use Rattle.std.proofs.Common.{◌∙◌, ap}
use Rattle.ec_ctypes.specs.views.Types.{ty_view, structs_view}
use Rattle.ec_params.specs.Least.{least}
use Rattle.ec_params.proofs.Shaping.{by_types}
use Rattle.ec_params.proofs.indicators.indicator_fault.Goals as goal

pub returns : goal.returns
returns c = c.in_ok-fault.ensures ∙ ap least (by_types (structs_view c.args.structs.now) (ty_view c.args.ty.now) (ty_view c.args.indicator.now))
