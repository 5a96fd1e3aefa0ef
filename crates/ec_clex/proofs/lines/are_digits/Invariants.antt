use Rattle.std.proofs.Common.{◌≡◌, drop}
use Rattle.ec_language.specs.Letters.{each, is_digit}
use Rattle.ec_clex.proofs.lines.are_digits.Given as goal

abbrev pub invariant-loop-byte : goal.invariant-loop-byte
invariant-loop-byte l = each is_digit (drop l.byte-index l.bytes) ≡ each is_digit l.bytes
