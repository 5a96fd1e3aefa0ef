use Rattle.std.proofs.Common.{◌≡◌, drop}
use Rattle.ec_meaning_defs.specs.functions.Formats as of
use Rattle.ec_printf.proofs.amounts.number.Given as goal

abbrev pub invariant-loop-digit : goal.invariant-loop-digit
invariant-loop-digit l = of.decimal_behind l.number (drop l.digit-index l.digits) ≡ of.decimal_behind 0 l.digits
