use Rattle.std.proofs.Common.{◌≡◌, ◌≤◌, ◌+◌, length, drop}
use Rattle.ec_typing_defs.specs.Formats as spec
use Rattle.ec_known_calls.proofs.conversions.digits.Given as goal

abbrev pub invariant-loop-byte : goal.invariant-loop-byte
invariant-loop-byte l = record {
  counted : length (spec.front_by spec.is_digit l.text) ≡ l.count + length (spec.front_by spec.is_digit (drop l.byte-index l.text));
  few : l.count ≤ l.byte-index;
}
