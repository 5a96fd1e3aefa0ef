use Rattle.std.proofs.Common.{◌≡◌, [], drop}
use Rattle.ec_params.specs.Numbers.{marked}
use Rattle.ec_params.proofs.numbers.flags_of.Given as goal

abbrev pub invariant-loop-number : goal.invariant-loop-number
invariant-loop-number l = marked (drop l.number-index l.numbers) l.flags ≡ marked l.numbers []
