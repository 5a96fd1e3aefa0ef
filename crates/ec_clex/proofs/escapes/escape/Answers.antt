use Rattle.std.proofs.Common.{◌∙◌, sym, arith}
use Rattle.ec_clex.proofs.Unescaped.{escape_simple}
use Rattle.ec_clex.proofs.escapes.escape.Goals as goal

pub returns-in-None-clause-is : goal.returns-in-None-clause-is
returns-in-None-clause-is c =
    escape_simple c.args.text.now c.args.from (omega arith) (sym c.is_digit_of.ensures ∙ c.if-is_digit_of.false) c.if-byte-eq120.false c.in-None.ensures
