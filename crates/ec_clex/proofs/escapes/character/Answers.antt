use Rattle.std.proofs.Common.{drop, arith, length-drop}
use Rattle.ec_clex.proofs.Unescaped.{two_bytes}
use Rattle.ec_clex.proofs.escapes.character.Goals as goal

pub returns-else-escaped-text : goal.returns-else-escaped-text
returns-else-escaped-text c =
    two_bytes c.args.text.now c.in-Some.escaped.byte (drop c.in-Some.escaped.end c.args.text.now) c.in-Some.ensures.is
    (omega (arith, length-drop c.in-Some.escaped.end c.args.text.now, c.in-Some.ensures.within))
