use Rattle.std.proofs.Common.{◌≡◌, ◌+◌, drop}
use Rattle.std.specs.Prelude.{option_map}
use Rattle.ec_runtime.specs.Prepared.{place_of, prepared_views}
use Rattle.ec_runtime.proofs.prepared.place_of.Given as goal

abbrev pub invariant-loop-at : goal.invariant-loop-at
invariant-loop-at l =
    place_of l.name (prepared_views l.prepared) ≡ option_map (λ at. at + l.at) (place_of l.name (prepared_views (drop l.at l.prepared)))
