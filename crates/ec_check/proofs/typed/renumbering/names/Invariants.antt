use Rattle.std.proofs.Common.{◌≡◌, ◌++◌, map, drop}
use Rattle.ec_ctypes.specs.views.Types.{ty_view}
use Rattle.ec_typing_defs.specs.Answers.{numbered_from}
use Rattle.ec_check.specs.typed.Orders.{names_view}
use Rattle.ec_check.proofs.typed.renumbering.names.Given as goal

abbrev pub invariant-loop-k : goal.invariant-loop-k
invariant-loop-k l = names_view l.names ++ numbered_from l.k l.order.numbers (map ty_view (drop l.k l.types)) ≡ numbered_from 0 l.order.numbers (map ty_view l.types)
