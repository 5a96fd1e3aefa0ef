use Rattle.std.proofs.Common.{◌≡◌, drop, map, option_map}
use Rattle.ec_code.specs.Views.{full_step_view, full_view}
use Rattle.ec_resolving_defs.specs.Initializers.{known_value}
use Rattle.ec_values.specs.Words.{word_view}
use Rattle.ec_resolve_values.specs.initial_parts.Known.{known_walked}
use Rattle.ec_resolve_values.proofs.initial_parts.known.known_full.Given as goal

abbrev pub invariant-loop-step : goal.invariant-loop-step
invariant-loop-step l =
    known_value (full_view l.full) ≡ known_walked (option_map word_view l.value) (map full_step_view (drop l.step-index l.steps))
