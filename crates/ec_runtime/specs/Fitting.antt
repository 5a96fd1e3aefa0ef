-- Which places are hosts.
use Rattle.std.specs.Prelude.{◌≤◌, ◌^◌, IsSome}
use Rattle.ec_convert.specs.declared.host.HostPlace.{HostPlace}
use Rattle.ec_convert.specs.Host.{given_host}

-- the symbols are types, and the numbers are at most 2^24
pub record IsFit (p : HostPlace) : Type 0 where
  pub typed : IsSome (given_host p)
  pub bounded : p.count ≤ 2 ^ 24
  pub sized : p.size ≤ 2 ^ 24
