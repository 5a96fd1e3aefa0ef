use Rattle.std.proofs.Common.{◌≡◌, suc, ◌-◌, length}
use Rattle.ec_params.specs.Numbers.{mark}
use Rattle.ec_params.proofs.numbers.mark.Given as goal

abbrev pub invariant-loop-flags : goal.invariant-loop-flags
invariant-loop-flags l = mark l.number l.flags ≡ mark l.number l.initial.flags

abbrev pub decreases-loop-flags : goal.decreases-loop-flags
decreases-loop-flags l = suc l.at - length l.flags
