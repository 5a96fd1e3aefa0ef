use Rattle.std.proofs.Common.{◌≡◌, Some}
use Rattle.ec_typing_defs.specs.Formats as spec
use Rattle.ec_known_calls.specs.Taking.{types_view, is_met}
use Rattle.ec_known_calls.proofs.formats.is_format_of.Given as goal

abbrev pub invariant-loop-left : goal.invariant-loop-left
invariant-loop-left l = spec.is_format_of (Some l.fn.format) (types_view l.fn.types) ≡ is_met l.left l.reading

abbrev pub decreases-loop-left : goal.decreases-loop-left
decreases-loop-left l = l.left
