use Rattle.std.proofs.Common.{◌≡◌, ◌++◌, map, drop}
use Rattle.sqlite_value.specs.Value.{owned}
use Rattle.ec_sqlitelink.specs.Bound.{as_whole}
use Rattle.ec_sqlitelink.proofs.bound.bound_whole.Given as goal

abbrev pub invariant-loop-param : goal.invariant-loop-param
invariant-loop-param l = map owned l.values.items ++ map as_whole (drop l.param-index l.params) ≡ map as_whole l.params
