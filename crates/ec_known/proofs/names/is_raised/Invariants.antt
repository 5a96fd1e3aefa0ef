use Rattle.std.proofs.Common.{◌≡◌, ◌-◌, ◌≤◌, length, map, drop}
use Rattle.ec_language.specs.Letters.{same_text}
use Rattle.ec_typing_defs.specs.Known as spec
use Rattle.ec_known.proofs.names.is_raised.Given as goal

abbrev pub invariant-loop-i : goal.invariant-loop-i
invariant-loop-i l = record {
  inside : l.i ≤ length l.text;
  rest : same_text (map spec.raised l.text) l.word ≡ same_text (map spec.raised (drop l.i l.text)) (drop l.i l.word);
}

abbrev pub decreases-loop-i : goal.decreases-loop-i
decreases-loop-i l = length l.text - l.i
