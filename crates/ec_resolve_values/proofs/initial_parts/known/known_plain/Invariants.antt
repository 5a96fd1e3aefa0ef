use Rattle.std.proofs.Common.{◌≡◌, drop, map, option_map}
use Rattle.ec_code.specs.Views.{plain_step_view, plain_view}
use Rattle.ec_resolving_defs.specs.Initializers.{known_value}
use Rattle.ec_values.specs.Words.{word_view}
use Rattle.ec_resolve_values.specs.initial_parts.Known.{known_walked}
use Rattle.ec_resolve_values.proofs.initial_parts.known.known_plain.Given as goal

abbrev pub invariant-loop-step : goal.invariant-loop-step
invariant-loop-step l =
    known_value (plain_view l.plain) ≡ known_walked (option_map word_view l.value) (map plain_step_view (drop l.step-index l.steps))
