-- Where the parts stand that are left, as the definition has them.
use Rattle.std.specs.Prelude.{ℕ, List, map, reverse}
use Rattle.ec_resolving_defs.specs.Initializers as of
use Rattle.ec_resolve_initials.specs.declared.spots.Spot.{Spot}

abbrev pub spot_view : Spot → of.Spot
spot_view s = record { base = s.base; done = s.done }

-- that of the innermost part is the last
abbrev pub spots_view : List Spot → List of.Spot
spots_view ss = reverse (map spot_view ss)

-- an offset, and where what is left behind it stands
abbrev pub next_place : ℕ → List of.Spot → ℕ × List of.Spot
next_place offset ss = (offset, ss)
