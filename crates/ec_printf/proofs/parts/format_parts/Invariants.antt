use Rattle.std.proofs.Common.{◌≡◌, option_map}
use Rattle.ec_meaning_defs.specs.functions.Formats as of
use Rattle.ec_printf.specs.Gathering.{gathered}
use Rattle.ec_printf.proofs.parts.format_parts.Given as goal

abbrev pub invariant-loop-left : goal.invariant-loop-left
invariant-loop-left l = of.format_parts l.fn.format ≡ option_map (gathered l.all) (of.parts_within l.left l.rest)

abbrev pub decreases-loop-left : goal.decreases-loop-left
decreases-loop-left l = l.left
