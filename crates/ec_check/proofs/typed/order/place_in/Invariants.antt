use Rattle.std.proofs.Common.{◌≡◌, ◌+◌, drop}
use Rattle.ec_typing_defs.specs.Answers.{place_of}
use Rattle.ec_check.proofs.typed.order.place_in.Given as goal

abbrev pub invariant-loop-i : goal.invariant-loop-i
invariant-loop-i l = place_of l.k l.numbers ≡ l.i + place_of l.k (drop l.i l.numbers)
