use Rattle.std.proofs.Common.{◌∙◌, sym, arith}
use Rattle.ec_clex.proofs.HashLines.{line_small}
use Rattle.ec_clex.proofs.lines.line_number.Goals as goal

pub overflow_cast-result : goal.overflow_cast-result
overflow_cast-result c =
    let small = line_small c.args.digits.now (sym c.are_digits.ensures ∙ c.if-not-are_digits.false) c.if-digits-gt9.false in
    omega (arith, small, c.in-Some.ensures)

pub returns-in-Some-clause-small : goal.returns-in-Some-clause-small
returns-in-Some-clause-small c =
    let small = line_small c.args.digits.now (sym c.are_digits.ensures ∙ c.if-not-are_digits.false) c.if-digits-gt9.false in
    omega (arith, small, c.in-Some.ensures)

pub returns-in-None-clause-is : goal.returns-in-None-clause-is
returns-in-None-clause-is c =
    let small = line_small c.args.digits.now (sym c.are_digits.ensures ∙ c.if-not-are_digits.false) c.if-digits-gt9.false in
    absurd (omega (arith, small, c.in-None.ensures))
