use Rattle.std.proofs.Common.{◌≡◌, ◌+◌, ◌-◌, ◌^◌, ◌≤◌, length, drop}
use Rattle.std.specs.Prelude.{max}
use Rattle.ec_clex.specs.Lexing.{mid_of, c_rest, Keeps}
use Rattle.ec_clex.proofs.lexer.Lexer.c_text.Given as goal

abbrev pub invariant-loop-at : goal.invariant-loop-at
invariant-loop-at l = record {
  same : c_rest l.fn.self.here.written (mid_of l.self) (drop l.at l.text) ≡ c_rest l.fn.self.here.written (mid_of l.fn.self) (drop l.from l.text);
  keeps : Keeps l.fn.self l.self;
  order : l.from ≤ l.at;
  inside : l.at ≤ length l.text;
  late : l.self.here.line ≤ max l.fn.self.here.line (10 ^ 9) + (l.at - l.from);
}

abbrev pub decreases-loop-at : goal.decreases-loop-at
decreases-loop-at l = length l.text - l.at
