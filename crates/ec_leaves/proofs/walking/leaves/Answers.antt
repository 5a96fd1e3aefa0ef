use Rattle.std.proofs.Common.{◌∙◌}
use Rattle.ec_ctypes.specs.views.Types.{ty_view, structs_view}
use Rattle.ec_leaves.proofs.Stepping.{all_cases}
use Rattle.ec_leaves.proofs.walking.leaves.Goals as goal

pub returns : goal.returns
returns c = c.in_ok-found.ensures ∙ all_cases (structs_view c.args.structs.now) (ty_view c.args.ty.now)
