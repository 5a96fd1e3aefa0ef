use Rattle.std.proofs.Common.{◌≡◌, drop}
use Rattle.ec_language.specs.Letters.{each, is_digit}
use Rattle.ec_references.proofs.tests_of_tokens.are_digits.Given as goal

abbrev pub invariant-loop-byte : goal.invariant-loop-byte
invariant-loop-byte l = each is_digit (drop l.byte-index l.text) ≡ each is_digit l.text
