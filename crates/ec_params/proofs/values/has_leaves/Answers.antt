use Rattle.std.proofs.Common.{◌∙◌, ap}
use Rattle.std.specs.Prelude.{is_some}
use Rattle.ec_ctypes.specs.views.Types.{ty_view, structs_view}
use Rattle.ec_host_defs.specs.Leaves.{leaves}
use Rattle.ec_params.proofs.Tallied.{tally_is_some}
use Rattle.ec_params.proofs.values.has_leaves.Goals as goal

pub returns : goal.returns
returns c = c.is_some.ensures ∙ ap is_some c.in_ok-tally.ensures ∙ tally_is_some (leaves (structs_view c.args.structs.now) (ty_view c.args.ty.now))
