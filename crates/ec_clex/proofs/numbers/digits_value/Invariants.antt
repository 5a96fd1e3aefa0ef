use Rattle.std.proofs.Common.{◌≡◌, drop}
use Rattle.ec_clex.proofs.Digits.{value_from}
use Rattle.ec_language.specs.Constants.{digits_value}
use Rattle.ec_clex.proofs.numbers.digits_value.Given as goal

abbrev pub invariant-loop-byte : goal.invariant-loop-byte
invariant-loop-byte l = value_from l.base l.number (drop l.byte-index l.digits) ≡ digits_value l.base l.digits
