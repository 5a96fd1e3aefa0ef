use Rattle.std.proofs.Common.{◌≡◌, map, take}
use Rattle.ec_ctypes.specs.views.Types.{structs_view}
use Rattle.ec_scopes.specs.Structs.{opened}
use Rattle.ec_check.specs.typed.Orders.{plain_struct}
use Rattle.ec_check.proofs.structs.definitions.Given as goal

abbrev pub invariant-loop-row : goal.invariant-loop-row
invariant-loop-row l = structs_view l.all ≡ map (λ r. plain_struct (opened r)) (take l.row-index l.rows)
