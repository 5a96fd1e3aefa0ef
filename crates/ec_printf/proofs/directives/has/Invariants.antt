use Rattle.std.proofs.Common.{◌≡◌, drop}
use Rattle.ec_meaning_defs.specs.functions.Formats as of
use Rattle.ec_printf.proofs.directives.has.Given as goal

abbrev pub invariant-loop-other : goal.invariant-loop-other
invariant-loop-other l = of.has l.fn.byte (drop l.other-index l.bytes) ≡ of.has l.fn.byte l.bytes
