use Rattle.std.proofs.Common.{◌≡◌, ◌+◌, drop, map}
use Rattle.std.specs.Prelude.{option_map}
use Rattle.ec_runtime.specs.Opening.{open_view}
use Rattle.ec_runtime.specs.Seeking.{place_named}
use Rattle.ec_runtime.proofs.finding.place_of.Given as goal

abbrev pub invariant-loop-at : goal.invariant-loop-at
invariant-loop-at g l =
    place_named l.name (map open_view l.sessions) ≡ option_map (λ at. at + l.at) (place_named l.name (map open_view (drop l.at l.sessions)))
