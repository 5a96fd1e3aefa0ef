use Rattle.std.proofs.Common.{◌∙◌, ap}
use Rattle.ec_ctypes.specs.views.Types.{structs_view}
use Rattle.ec_scopes.specs.Seen.{world_of}
use Rattle.ec_check.proofs.Told.{stands}
use Rattle.ec_check.proofs.checking.found.Goals as goal

pub returns : goal.returns
returns c =
    c.make_numbered.ensures (world_of c.args.checker.now)
    (stands (world_of c.args.checker.now) c.struct_rows.result.now c.as_slice.result.now c.closed.result.now c.types.result.now c.struct_rows.ensures
    (ap structs_view c.as_slice.ensures ∙ c.in_ok-structs.ensures) c.closed.ensures c.types.ensures)
