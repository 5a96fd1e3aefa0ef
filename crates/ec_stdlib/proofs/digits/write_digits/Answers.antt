-- No digit is written yet.
use Rattle.std.proofs.Common.{ap, arith}
use Rattle.std.proofs.lemmas.List.{drop_all}
use Rattle.ec_meaning_defs.specs.functions.Printing.{digits_before}
use Rattle.ec_stdlib.proofs.digits.write_digits.Goals as goal

pub loop-at-init : goal.loop-at-init
loop-at-init c = record {
  few = omega arith;
  same = ap (digits_before 22 c.args.base c.args.capital c.args.number) (drop_all 22 c.args.buffer.now (omega (arith, c.requires.room)));
}
