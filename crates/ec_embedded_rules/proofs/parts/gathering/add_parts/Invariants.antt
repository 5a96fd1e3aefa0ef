use Rattle.std.proofs.Common.{◌≡◌, ◌++◌, drop, map}
use Rattle.ec_ctypes.specs.views.Embedded.{part_view}
use Rattle.ec_typing_defs.specs.statement_parts.References.{of_all, of_part}
use Rattle.ec_embedded_rules.specs.parts.Views.{reference_view}
use Rattle.ec_embedded_rules.proofs.parts.gathering.add_parts.Given as goal

abbrev pub invariant-loop-part : goal.invariant-loop-part
invariant-loop-part l =
    map reference_view l.all ++ of_all of_part (map part_view (drop l.part-index l.parts))
    ≡ map reference_view l.initial.all ++ of_all of_part (map part_view l.parts)
