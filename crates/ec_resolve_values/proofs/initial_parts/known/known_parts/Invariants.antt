use Rattle.std.proofs.Common.{◌≡◌, ◌++◌, drop, map}
use Rattle.ec_code.specs.Objects.{stored_view}
use Rattle.ec_resolving_defs.specs.Initializers.{parts_known}
use Rattle.ec_resolve_values.specs.initial_parts.Parts.{parts_view}
use Rattle.ec_resolve_values.proofs.initial_parts.known.known_parts.Given as goal

abbrev pub invariant-loop-part : goal.invariant-loop-part
invariant-loop-part l =
    parts_known (parts_view l.parts) ≡ map stored_view l.stored ++ parts_known (parts_view (drop l.part-index l.parts))
