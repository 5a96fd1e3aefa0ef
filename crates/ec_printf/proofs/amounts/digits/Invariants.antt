use Rattle.std.proofs.Common.{◌≡◌, ◌≤◌, ◌+◌, length, drop}
use Rattle.ec_meaning_defs.specs.functions.Formats as of
use Rattle.ec_printf.proofs.amounts.digits.Given as goal

abbrev pub invariant-loop-byte : goal.invariant-loop-byte
invariant-loop-byte l = record {
  counted : length (of.front_while of.is_digit l.text) ≡ l.count + length (of.front_while of.is_digit (drop l.byte-index l.text));
  few : l.count ≤ l.byte-index;
}
