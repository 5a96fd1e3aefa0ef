use Rattle.std.proofs.Common.{◌≡◌, ◌≤◌, drop}
use Rattle.ec_meaning_defs.specs.functions.Printing.{digits_before, digits_of}
use Rattle.ec_stdlib.proofs.digits.write_digits.Given as goal

abbrev pub invariant-loop-at : goal.invariant-loop-at
invariant-loop-at l = record {
  few : l.at ≤ 22;
  same : digits_before l.at l.base l.capital l.left (drop l.at l.buffer) ≡ digits_of l.base l.capital l.number;
}

abbrev pub decreases-loop-at : goal.decreases-loop-at
decreases-loop-at l = l.at
