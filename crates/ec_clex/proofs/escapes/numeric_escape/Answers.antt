use Rattle.std.proofs.Common.{◌^◌, arith}
use Rattle.ec_clex.proofs.Digits.{escape_is, escape_great}
use Rattle.ec_clex.proofs.escapes.numeric_escape.Goals as goal

pub returns-then-number-le255-clause-is : goal.returns-then-number-le255-clause-is
returns-then-number-le255-clause-is c =
    escape_is c.args.base c.args.most c.args.from c.digits_end-end.result c.in-Some.number c.args.text.now c.digits_end-end.ensures.is c.if-end-from.false c.in-Some.ensures c.if-number-le255.true

pub returns-else-number-le255-clause-is : goal.returns-else-number-le255-clause-is
returns-else-number-le255-clause-is c =
    escape_great c.args.base c.args.most c.args.from c.digits_end-end.result c.in-Some.number c.args.text.now c.digits_end-end.ensures.is c.if-end-from.false (omega (arith, c.in-Some.ensures)) c.if-number-le255.false

pub returns-in-None-clause-is : goal.returns-in-None-clause-is
returns-in-None-clause-is c =
    escape_great c.args.base c.args.most c.args.from c.digits_end-end.result (2 ^ 64) c.args.text.now c.digits_end-end.ensures.is c.if-end-from.false c.in-None.ensures (omega arith)
